-- A property of each element of a list.
use mathlib.Core.List.{List, [], ◌∷◌}
use Prim.Native.Nat.{ℕ, zero, suc, ◌<◌, zero-le, suc-le-suc}
use native.Mathlib.Nat.{not-suc-le-zero, le_of_suc-le-suc}
use lib.ListN.{length, get_or}

unfoldable pub All : {A : Type 0} → (A → Type 0) → List A → Type 0
All P [] = Unit {0}
All P (a ∷ l) = P a × All P l

module _ {A : Type 0} (P : A → Type 0) where
  pub all_none : All P []
  unfolding All
  all_none = tt

  pub all_cons : (a : A) (l : List A) → P a → All P l → All P (a ∷ l)
  unfolding All
  all_cons a l p ps = (p, ps)

  pub all_head : (a : A) (l : List A) → All P (a ∷ l) → P a
  unfolding All
  all_head a l ps = ps.0

  pub all_tail : (a : A) (l : List A) → All P (a ∷ l) → All P l
  unfolding All
  all_tail a l ps = ps.1

  pub all_at : (l : List A) → All P l → (i : ℕ) (d : A) → i < length l → P (get_or l i d)
  unfolding All
  all_at [] ps i d h = absurd (not-suc-le-zero h)
  all_at (a ∷ l) ps zero d h = ps.0
  all_at (a ∷ l) ps (suc i) d h = all_at l ps.1 i d (le_of_suc-le-suc h)

  pub all_from : (l : List A) (d : A) → ((i : ℕ) → i < length l → P (get_or l i d)) → All P l
  unfolding All
  all_from [] d f = tt
  all_from (a ∷ l) d f = (f 0 (suc-le-suc zero-le), all_from l d (λ i h. f (suc i) (suc-le-suc h)))
