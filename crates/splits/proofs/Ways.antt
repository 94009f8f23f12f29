-- The short way and the long way of a split have the parts of the split: no product that fits loses anything.
use mathlib.Core.Path.{◌≡◌, refl, ap, ap₂}
use mathlib.Core.List.{List, [], ◌∷◌}
use Prim.Native.Nat.{ℕ, ◌+◌, ◌*◌, ◌-◌, ◌/◌, ◌^◌, ◌≤◌, ◌<◌}
use native.Mathlib.Nat.{mul-le-mul, mul-le-mul_left, lt_of_le_of_lt, mod-eq_of_lt}
use native.Mathlib.Omega.{arith}
use Rattle.figures.specs.Figures.{total, sum_of}
use Rattle.splits.specs.Split.{part, parts_after, split}
use Rattle.splits.specs.Ways.{quotient_in, parts_in, split_in}

-- A quotient whose product fits in so many bits is the quotient.
pub quotient_in_is : (bits x u e : ℕ) → u ≤ e → x * e < 2 ^ bits → quotient_in bits x u e ≡ x * u / e
quotient_in_is bits x u e h fits = ap (λ (y : ℕ). y / e) (mod-eq_of_lt (lt_of_le_of_lt (mul-le-mul_left x h) fits))

-- Two numbers below 65,536 have a product of 32 bits.
pub short_fits : (x e : ℕ) → x < 65536 → e < 65536 → x * e < 2 ^ 32
short_fits x e short_x short_e =
    let most_x : x ≤ 65535 = omega arith in
    let most_e : e ≤ 65535 = omega arith in
    omega (arith, mul-le-mul most_x most_e)

parts_in_is : (bits x e c : ℕ) (weights : List ℕ) → c + sum_of weights ≤ e → x * e < 2 ^ bits → parts_in bits x e c weights ≡ parts_after x e c weights
unfolding parts_in parts_after part total
parts_in_is bits x e c [] h fits = refl
parts_in_is bits x e c (w ∷ rest) h fits =
    ap₂
    ◌∷◌
    (ap₂ ◌-◌ (quotient_in_is bits x (c + w) e (omega arith) fits) (quotient_in_is bits x c e (omega arith) fits))
    (parts_in_is bits x e (c + w) rest (omega arith) fits)

-- The split in so many bits, where the amount times the total weight fits in them.
pub split_in_is : (bits amount : ℕ) (weights : List ℕ) → amount * sum_of weights < 2 ^ bits → split_in bits amount weights ≡ split amount weights
unfolding split_in split
split_in_is bits amount weights fits = parts_in_is bits amount (sum_of weights) 0 weights (omega arith) fits
