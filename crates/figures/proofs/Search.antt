-- The search for the first entry of a list that is not below a bound.
use mathlib.Core.Path.{◌≡◌, refl}
use mathlib.Core.Bool.{Bool, true, false, cond}
use mathlib.Core.List.{List, [], ◌∷◌}
use Prim.Native.Nat.{ℕ, suc, ◌+◌, ◌≤◌, ◌<◌}
use native.Mathlib.Omega.{arith}
use native.Mathlib.Numerals.{add-one}
use lib.Dec.{ltb}
use lib.ListN.{length, get_or, drop, drop_of_length-le}
use lib.Seq.{drop-cons}
use borrow.Author.Tests.{ltb-true, lt-ltb, le-ltb}
use Rattle.figures.specs.Bounds.{AllBelow, first_not_below}
use Rattle.figures.proofs.Bounds.{cons_below}

-- There is none where all entries are below the bound, and only there.
pub none_below : (bound : ℕ) → 0 < bound → (list : List ℕ) → length list ≤ first_not_below bound list → AllBelow bound list
unfolding first_not_below
none_below bound some [] h = λ i. omega arith
none_below bound some (w ∷ list) h = go (ltb w bound) refl h (λ l. none_below bound some list l)
  where
    go : (t : Bool) → ltb w bound ≡ t → suc (length list) ≤ cond t (suc (first_not_below bound list)) 0 → (length list ≤ first_not_below bound list → AllBelow bound list)
        → AllBelow bound (w ∷ list)
    go true e l ih = cons_below bound w list (ltb-true w bound e) (ih (omega arith))
    go false e l ih = absurd (omega arith)

pub below_none : (bound : ℕ) (list : List ℕ) → AllBelow bound list → length list ≤ first_not_below bound list
unfolding first_not_below
below_none bound [] h = omega arith
below_none bound (w ∷ list) h = rw (lt-ltb w bound (h 0)) (omega (arith, below_none bound list (λ i. h (suc i))))

-- ---- `first_not_below`: the entries in front of `index` are below the bound

pub record Searching (bound : ℕ) (list : List ℕ) (index : ℕ) : Type 0 where
  pub within : index ≤ length list
  pub same : index + first_not_below bound (drop index list) ≡ first_not_below bound list

pub searching_begin : (bound : ℕ) (list : List ℕ) → Searching bound list 0
searching_begin bound list = record { within = omega arith; same = omega arith }

module _ (bound : ℕ) (list : List ℕ) (index : ℕ) (inv : Searching bound list index) where
  pub searching_again : index < length list → get_or list index 0 < bound → Searching bound list (index + 1)
  unfolding first_not_below
  searching_again h w =
      let s = rw (drop-cons list index 0 h, lt-ltb (get_or list index 0) bound w) at inv.same in
      record { within = omega arith; same = rw add-one (omega arith) }

  pub searching_stop : index < length list → bound ≤ get_or list index 0 → index ≡ first_not_below bound list
  unfolding first_not_below
  searching_stop h w =
      let s = rw (drop-cons list index 0 h, le-ltb (get_or list index 0) bound w) at inv.same in
      omega arith

  pub searching_end : length list ≤ index → index ≡ first_not_below bound list
  unfolding first_not_below
  searching_end h =
      let s = rw (drop_of_length-le list h) at inv.same in
      omega arith
