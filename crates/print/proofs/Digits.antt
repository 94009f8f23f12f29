-- The fewest digits of a number, as `io::decimal` gives them, are its numeral.
use mathlib.Core.Path.{◌≡◌, ap}
use mathlib.Core.List.{List, [], ◌∷◌, ◌++◌}
use Prim.Native.Nat.{ℕ, zero, suc, ◌+◌, ◌-◌, ◌*◌, ◌/◌, ◌%◌, ◌^◌, ◌<◌, ◌≤◌, zero-le}
use native.Mathlib.Nat.{le_of_suc-le-suc, lt_of_not-le, pow-succ', pow-suc, pow-le-pow_right, zero-lt-suc, mod-eq_of_lt, div-lt_iff_lt-mul, le-div_iff_mul-le}
use native.Mathlib.Omega.{arith}
use borrow.Author.Tests.{lt-ltb, le-ltb}
use Rattle.io.specs.Digits.{last_digits, hex_digit_ascii, IsDigitCount}
use Rattle.print.specs.Line.{numeral, decimal}

-- A number that takes a second digit is at least 10.
ten : (j n : ℕ) → 10 ^ suc j ≤ n → 10 ≤ n
ten j n h =
    let p : 1 ≤ 10 ^ j = pow-le-pow_right {n = 10} (zero-lt-suc 9) {i = 0} {j = j} zero-le in
    let q : 10 * 10 ^ j ≤ n = rw pow-succ' at h in
    omega arith

last_digit : (n : ℕ) → hex_digit_ascii (n % 10) ≡ 48 + n % 10
last_digit n =
    let h : n % 10 < 10 = omega arith in
    rw (lt-ltb _ _ h)

-- Without its last digit a number has one digit fewer.
fewest_rest : (n j : ℕ) → IsDigitCount 10 1 n (suc (suc j)) → IsDigitCount 10 1 (n / 10) (suc j)
fewest_rest n j h = (
  omega arith,
  (div-lt_iff_lt-mul (zero-lt-suc 9)).1 (rw (pow-suc 10 (suc j)) at h.1),
  λ k. (le-div_iff_mul-le (zero-lt-suc 9)).1 (less k),
)
  where
    less : 1 < suc j → 10 ^ (suc j - 1) * 10 ≤ n
    less k =
        let e : suc (suc j) - 1 ≡ suc j = omega arith in
        let f : suc (suc j - 1) ≡ suc j = omega arith in
        let g : 10 ^ suc j ≤ n = rw e at (h.2 (omega arith)) in
        rw (← pow-suc 10 (suc j - 1), f) g

digits-numeral : (k most n : ℕ) → k ≤ most → IsDigitCount 10 1 n k → last_digits 10 k n ≡ numeral most n
unfolding numeral
digits-numeral zero most n l h = let z = h.0 in absurd (omega arith)
digits-numeral (suc k) zero n l h = absurd (omega arith)
digits-numeral (suc zero) (suc most) n l h = rw (last_digit n, mod-eq_of_lt h.1, lt-ltb _ _ h.1)
digits-numeral (suc (suc j)) (suc most) n l h =
    let m : suc j ≤ most = omega arith in
    let e : suc (suc j) - 1 ≡ suc j = omega arith in
    let big : 10 ≤ n = ten j n (rw e at (h.2 (omega arith))) in
    rw (last_digit n, le-ltb _ _ big)
    (ap (λ (s : List ℕ). s ++ ((48 + n % 10) ∷ [])) (digits-numeral (suc j) most (n / 10) m (fewest_rest n j h)))

-- A number of 64 bits has at most 20 digits.
twenty : (n k : ℕ) → IsDigitCount 10 1 n k → n < 2 ^ 64 → k ≤ 20
twenty n k h l = le_of_suc-le-suc (lt_of_not-le clash)
  where
    clash : 21 ≤ k → ⊥
    clash w =
        let j : 20 ≤ k - 1 = omega arith in
        let p : 10 ^ 20 ≤ 10 ^ (k - 1) = pow-le-pow_right {n = 10} (zero-lt-suc 9) j in
        let one : 1 < k = omega arith in
        let q = h.2 one in
        omega arith

pub digits_decimal : (n k : ℕ) → IsDigitCount 10 1 n k → n < 2 ^ 64 → last_digits 10 k n ≡ decimal n
digits_decimal n k h l = digits-numeral k 20 n (twenty n k h l) h
