-- Laws of lists of bounded numbers.
use mathlib.Core.List.{List, [], ◌∷◌}
use Prim.Native.Nat.{ℕ, zero, suc, ◌+◌, ◌<◌}
use lib.ListN.{drop}
use lib.Seq.{get_or-drop}
use Rattle.figures.specs.Bounds.{AllBelow}

pub nil_below : (bound : ℕ) → 0 < bound → AllBelow bound []
nil_below bound h i = h

pub cons_below : (bound a : ℕ) (l : List ℕ) → a < bound → AllBelow bound l → AllBelow bound (a ∷ l)
cons_below bound a l h all zero = h
cons_below bound a l h all (suc i) = all i

pub drop_below : (bound : ℕ) (l : List ℕ) (n : ℕ) → AllBelow bound l → AllBelow bound (drop n l)
drop_below bound l n all i = rw (get_or-drop n l i 0) (all (n + i))
