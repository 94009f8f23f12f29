-- What stands at an index of a list, and what behind it.
use mathlib.Core.Path.{◌≡◌, sym, ap, ◌∙◌}
use mathlib.Core.List.{List, ◌∷◌}
use Prim.Native.Nat.{ℕ, suc, ◌+◌, ◌<◌}
use native.Mathlib.Nat.{add-zero}
use native.Mathlib.Omega.{arith}
use native.Mathlib.Numerals.{add-one}
use lib.ListN.{length, get_or, drop, length-drop}
use lib.Seq.{get_or-drop, drop-drop}

pub record Stands (l : List ℕ) (i v : ℕ) (rest : List ℕ) : Type 0 where
  pub there : i < length l
  pub is : get_or l i 0 ≡ v
  pub next : drop (suc i) l ≡ rest

pub stands : (l : List ℕ) (i v : ℕ) (rest : List ℕ) → drop i l ≡ v ∷ rest → Stands l i v rest
stands l i v rest d =
    let first : get_or l (i + 0) 0 ≡ v = sym (get_or-drop i l 0 0) ∙ ap (λ (m : List ℕ). get_or m 0 0) d in
    let others : drop (i + 1) l ≡ rest = sym (drop-drop 1 i l) ∙ ap (drop 1) d in
    record {
      there = omega (arith, length-drop i l, ap length d);
      is = rw add-zero at first;
      next = rw add-one at others;
    }
