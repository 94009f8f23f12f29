-- The split of an amount: its parts telescope, so that all of the amount is given away, and none is above its weight.
use mathlib.Core.Path.{◌≡◌, sym, ap, ◌∙◌}
use mathlib.Core.Logic.{◌⊎◌, inl, inr}
use mathlib.Core.Bool.{Bool, true, false}
use mathlib.Core.List.{List, [], ◌∷◌}
use Prim.Native.Nat.{ℕ, zero, suc, ◌+◌, ◌*◌, ◌-◌, ◌/◌, ◌≤◌, ◌<◌}
use native.Mathlib.Nat.{le_trans, mul-zero, zero-div, div-zero, mul-div_cancel, add-mul-div_left, eq-zero-or-pos, mul-le-mul_right, le-div_iff_mul-le, div-mul-le_self, add-zero, add_assoc, zero-add}
use native.Mathlib.Omega.{arith}
use Rattle.figures.specs.Figures.{total, at, sum_of}
use Rattle.figures.specs.Sums.{on, sum}
use Rattle.figures.proofs.Sums.{sum_cong}
use Rattle.splits.specs.Split.{part, parts_after, split}

pub div_mono : (a b e : ℕ) → a ≤ b → a / e ≤ b / e
div_mono a b e h = go (eq-zero-or-pos e)
  where
    go : (e ≡ 0) ⊎ (0 < e) → a / e ≤ b / e
    go (inl z) = rw z (simp div-zero (omega arith))
    go (inr q) = (le-div_iff_mul-le q).1 (le_trans (div-mul-le_self a e) h)

-- ---- The parts telescope

telescope_step : (x e c d a : ℕ) (b : Bool) → a ≡ x * c / e → a + on b (part x e c d) ≡ x * (c + on b d) / e
unfolding part
telescope_step x e c d a true h = omega (arith, div_mono (x * c) (x * (c + d)) e (omega arith))
telescope_step x e c d a false h = omega (arith, ap (λ (y : ℕ). x * y / e) (add-zero c))

-- The parts of the children before the k-th, of those of which a test holds, make up the part of their sum.
pub telescope : (x e c : ℕ) (t : ℕ → Bool) (d : ℕ → ℕ) (k : ℕ)
    → x * c / e + sum k (λ i. on (t i) (part x e (c + sum i (λ h. on (t h) (d h))) (d i))) ≡ x * (c + sum k (λ i. on (t i) (d i))) / e
unfolding sum
telescope x e c t d zero = omega (arith, ap (λ (y : ℕ). x * y / e) (add-zero c))
telescope x e c t d (suc k) =
    let s : ℕ = sum k (λ i. on (t i) (d i)) in
    let o : ℕ = on (t k) (part x e (c + s) (d k)) in
    sym (add_assoc (x * c / e) (sum k (λ i. on (t i) (part x e (c + sum i (λ h. on (t h) (d h))) (d i)))) o)
    ∙ telescope_step x e (c + s) (d k) _ (t k) (telescope x e c t d k)
    ∙ ap (λ (y : ℕ). x * y / e) (add_assoc c s (on (t k) (d k)))

pub telescope_all : (x e : ℕ) (t : ℕ → Bool) (d : ℕ → ℕ) (k : ℕ)
    → sum k (λ i. on (t i) (part x e (sum i (λ h. on (t h) (d h))) (d i))) ≡ x * sum k (λ i. on (t i) (d i)) / e
telescope_all x e t d k =
    let a : sum k (λ i. on (t i) (part x e (sum i (λ h. on (t h) (d h))) (d i))) ≡ sum k (λ i. on (t i) (part x e (0 + sum i (λ h. on (t h) (d h))) (d i)))
    = sum_cong k _ _ (λ i l. ap (λ (z : ℕ). on (t i) (part x e z (d i))) (sym (zero-add (sum i (λ h. on (t h) (d h)))))) in
    omega (
      arith,
      telescope x e 0 t d k,
      ap (λ (z : ℕ). z / e) (mul-zero x),
      zero-div e,
      ap (λ (z : ℕ). x * z / e) (zero-add (sum k (λ i. on (t i) (d i)))),
    )

-- ---- One part

-- A child gets no more than its weight where the amount is at most the whole weight.
pub part_le : (x e c d : ℕ) → x ≤ e → part x e c d ≤ d
unfolding part
part_le x e c d h = go (eq-zero-or-pos e)
  where
    go : (e ≡ 0) ⊎ (0 < e) → x * (c + d) / e - x * c / e ≤ d
    go (inl z) = rw z (simp div-zero (omega arith))
    go (inr q) =
        let a : x * (c + d) ≤ x * c + e * d = omega (arith, mul-le-mul_right d h) in
        omega (arith, div_mono (x * (c + d)) (x * c + e * d) e a, add-mul-div_left (x * c) d q)

pub part_none : (x e c : ℕ) → part x e c 0 ≡ 0
unfolding part
part_none x e c = omega (arith, ap (λ (y : ℕ). x * y / e) (add-zero c))

-- An amount of at most the whole weight is given whole.
pub part_whole : (x e : ℕ) → x ≤ e → x * e / e ≡ x
part_whole x e h = go (eq-zero-or-pos e)
  where
    go : (e ≡ 0) ⊎ (0 < e) → x * e / e ≡ x
    go (inl z) = let y : x ≡ 0 = omega arith in rw (z, div-zero, y)
    go (inr q) = mul-div_cancel x q

-- ---- One quotient

-- Nothing is dealt where nothing was served.
pub quotient_none : (x u e : ℕ) → u ≡ 0 → x * u / e ≡ 0
quotient_none x u e z = ap (λ (y : ℕ). x * y / e) z ∙ ap (λ (y : ℕ). y / e) (mul-zero x) ∙ zero-div e

-- ---- The split over any list of weights

parts_after-sum : (x e c : ℕ) (weights : List ℕ) → x * c / e + sum_of (parts_after x e c weights) ≡ x * (c + sum_of weights) / e
unfolding parts_after total part
parts_after-sum x e c [] = omega (arith, ap (λ (y : ℕ). x * y / e) (add-zero c))
parts_after-sum x e c (w ∷ rest) =
    omega (
      arith,
      parts_after-sum x e (c + w) rest,
      div_mono (x * c) (x * (c + w)) e (omega arith),
      ap (λ (y : ℕ). x * y / e) (add_assoc c w (sum_of rest)),
    )

-- All of the amount is given away where some weight is above 0.
pub split-sum : (amount : ℕ) (weights : List ℕ) → 0 < sum_of weights → sum_of (split amount weights) ≡ amount
unfolding split
split-sum amount weights h =
    omega (
      arith,
      parts_after-sum amount (sum_of weights) 0 weights,
      ap (λ (z : ℕ). z / sum_of weights) (mul-zero amount),
      zero-div (sum_of weights),
      ap (λ (z : ℕ). amount * z / sum_of weights) (zero-add (sum_of weights)),
      mul-div_cancel amount h,
    )

parts_after_le : (x e c : ℕ) (weights : List ℕ) → x ≤ e → (k : ℕ) → at (parts_after x e c weights) k ≤ at weights k
unfolding parts_after
parts_after_le x e c [] h k = omega arith
parts_after_le x e c (w ∷ rest) h zero = part_le x e c w h
parts_after_le x e c (w ∷ rest) h (suc k) = parts_after_le x e (c + w) rest h k

-- No child gets more than its weight where the amount is at most their sum.
pub split_le : (amount : ℕ) (weights : List ℕ) → amount ≤ sum_of weights → (k : ℕ) → at (split amount weights) k ≤ at weights k
unfolding split
split_le amount weights h k = parts_after_le amount (sum_of weights) 0 weights h k
