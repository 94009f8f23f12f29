-- Laws of sums over a range of places, and of figures that count only where a test holds.
use mathlib.Core.Path.{◌≡◌, refl, sym, ap, ap₂, ◌∙◌}
use mathlib.Core.Bool.{Bool, true, false}
use Prim.Native.Nat.{ℕ, zero, suc, ◌+◌, ◌*◌, ◌≤◌, ◌<◌}
use native.Mathlib.Nat.{le_refl, le_trans, le-suc, zero-mul, add-mul, not-suc-le-zero, eq-or-lt_of_le, le_of_suc-le-suc}
use native.Mathlib.Omega.{arith}
use mathlib.Core.Logic.{◌⊎◌, inl, inr}
use lib.Dec.{eqb, leb}
use Rattle.figures.specs.Sums.{on, sum}
use borrow.Author.Tests.{eq-eqb, ne_eqb, leb-true, leb-false, lt-leb}

-- ---- A figure where a test holds

pub on_yes : (t : Bool) (a : ℕ) → t ≡ true → on t a ≡ a
on_yes t a e = ap (λ (b : Bool). on b a) e

pub on_no : (t : Bool) (a : ℕ) → t ≡ false → on t a ≡ 0
on_no t a e = ap (λ (b : Bool). on b a) e

pub on_comm : (s t : Bool) (a : ℕ) → on s (on t a) ≡ on t (on s a)
on_comm true t a = refl
on_comm false true a = refl
on_comm false false a = refl

pub on_add : (t : Bool) (a b : ℕ) → on t (a + b) ≡ on t a + on t b
on_add true a b = refl
on_add false a b = refl

pub on_le : (t : Bool) (a b : ℕ) → (t ≡ true → a ≤ b) → on t a ≤ on t b
on_le true a b h = h refl
on_le false a b h = le_refl 0

pub on_cong : (t : Bool) (a b : ℕ) → (t ≡ true → a ≡ b) → on t a ≡ on t b
on_cong true a b h = h refl
on_cong false a b h = refl

pub on_mul : (t : Bool) (a b : ℕ) → on t a * b ≡ on t (a * b)
on_mul true a b = refl
on_mul false a b = zero-mul b

-- ---- The places below k

pub sum_suc : (k : ℕ) (g : ℕ → ℕ) → sum (suc k) g ≡ sum k g + g k
unfolding sum
sum_suc k g = refl

pub sum_cong : (k : ℕ) (g h : ℕ → ℕ) → ((i : ℕ) → i < k → g i ≡ h i) → sum k g ≡ sum k h
unfolding sum
sum_cong zero g h e = refl
sum_cong (suc k) g h e = ap₂ ◌+◌ (sum_cong k g h (λ i l. e i (le_trans l (le-suc k)))) (e k (le_refl (suc k)))

pub sum_le : (k : ℕ) (g h : ℕ → ℕ) → ((i : ℕ) → i < k → g i ≤ h i) → sum k g ≤ sum k h
unfolding sum
sum_le zero g h e = le_refl 0
sum_le (suc k) g h e =
    let a : sum k g ≤ sum k h = sum_le k g h (λ i l. e i (le_trans l (le-suc k))) in
    let b : g k ≤ h k = e k (le_refl (suc k)) in
    omega arith

pub sum_add : (k : ℕ) (g h : ℕ → ℕ) → sum k (λ i. g i + h i) ≡ sum k g + sum k h
unfolding sum
sum_add zero g h = refl
sum_add (suc k) g h = omega (arith, sum_add k g h)

pub sum_mul : (k : ℕ) (g : ℕ → ℕ) (a : ℕ) → sum k g * a ≡ sum k (λ i. g i * a)
unfolding sum
sum_mul zero g a = zero-mul a
sum_mul (suc k) g a = add-mul (sum k g) (g k) a ∙ ap (λ (x : ℕ). x + g k * a) (sum_mul k g a)

pub sum-on : (k : ℕ) (t : Bool) (g : ℕ → ℕ) → on t (sum k g) ≡ sum k (λ i. on t (g i))
unfolding sum
sum-on zero true g = refl
sum-on zero false g = refl
sum-on (suc k) t g = on_add t (sum k g) (g k) ∙ ap (λ (x : ℕ). x + on t (g k)) (sum-on k t g)

pub sum_zero : (k : ℕ) → sum k (λ i. 0) ≡ 0
unfolding sum
sum_zero zero = refl
sum_zero (suc k) = omega (arith, sum_zero k)

pub sum_none : (g : ℕ → ℕ) → sum 0 g ≡ 0
unfolding sum
sum_none g = refl

pub sum_swap : (k l : ℕ) (g : ℕ → ℕ → ℕ) → sum k (λ i. sum l (λ j. g i j)) ≡ sum l (λ j. sum k (λ i. g i j))
unfolding sum
sum_swap zero l g = sym (sum_zero l)
sum_swap (suc k) l g = ap (λ (x : ℕ). x + sum l (λ j. g k j)) (sum_swap k l g) ∙ sym (sum_add l (λ j. sum k (λ i. g i j)) (λ j. g k j))

-- Nothing is met before the place x.
none_below : (k x : ℕ) (g : ℕ → ℕ) → k ≤ x → sum k (λ i. on (eqb x i) (g i)) ≡ 0
unfolding sum
none_below zero x g h = refl
none_below (suc k) x g h =
    let a : sum k (λ i. on (eqb x i) (g i)) ≡ 0 = none_below k x g (le_trans (le-suc k) h) in
    let b : on (eqb x k) (g k) ≡ 0 = on_no (eqb x k) (g k) (ne_eqb x k (λ e. omega arith)) in
    omega arith

pub sum_one : (k x : ℕ) (g : ℕ → ℕ) → x < k → sum k (λ i. on (eqb x i) (g i)) ≡ g x
unfolding sum
sum_one zero x g h = absurd (not-suc-le-zero h)
sum_one (suc k) x g h = go (eq-or-lt_of_le (le_of_suc-le-suc h)) (λ l. sum_one k x g l)
  where
    go : (x ≡ k) ⊎ (x < k) → (x < k → sum k (λ i. on (eqb x i) (g i)) ≡ g x) → sum k (λ i. on (eqb x i) (g i)) + on (eqb x k) (g k) ≡ g x
    go (inl e) ih =
        let a : sum k (λ i. on (eqb x i) (g i)) ≡ 0 = none_below k x g (omega arith) in
        let b : on (eqb x k) (g k) ≡ g k = on_yes (eqb x k) (g k) (eq-eqb x k e) in
        let c : g x ≡ g k = ap g e in
        omega arith
    go (inr l) ih =
        let b : on (eqb x k) (g k) ≡ 0 = on_no (eqb x k) (g k) (ne_eqb x k (λ e. omega arith)) in
        omega (arith, ih l)

-- ---- The places from j on

-- The sum of g i over the k places from j on.
unfoldable pub up : ℕ → ℕ → (ℕ → ℕ) → ℕ
up zero j g = 0
up (suc k) j g = g j + up k (suc j) g

pub up_suc : (k j : ℕ) (g : ℕ → ℕ) → up (suc k) j g ≡ g j + up k (suc j) g
unfolding up
up_suc k j g = refl

pub up_le : (k j : ℕ) (g h : ℕ → ℕ) → ((i : ℕ) → j ≤ i → i < j + k → g i ≤ h i) → up k j g ≤ up k j h
unfolding up
up_le zero j g h e = le_refl 0
up_le (suc k) j g h e =
    let a : g j ≤ h j = e j (le_refl j) (omega arith) in
    let b : up k (suc j) g ≤ up k (suc j) h = up_le k (suc j) g h (λ i l m. e i (omega arith) (omega arith)) in
    omega arith

pub up_cong : (k j : ℕ) (g h : ℕ → ℕ) → ((i : ℕ) → j ≤ i → i < j + k → g i ≡ h i) → up k j g ≡ up k j h
unfolding up
up_cong zero j g h e = refl
up_cong (suc k) j g h e =
    let a : g j ≡ h j = e j (le_refl j) (omega arith) in
    let b : up k (suc j) g ≡ up k (suc j) h = up_cong k (suc j) g h (λ i l m. e i (omega arith) (omega arith)) in
    omega arith

pub up_add : (k j : ℕ) (g h : ℕ → ℕ) → up k j (λ i. g i + h i) ≡ up k j g + up k j h
unfolding up
up_add zero j g h = refl
up_add (suc k) j g h = omega (arith, up_add k (suc j) g h)

pub sum_up : (k j m : ℕ) (g : ℕ → ℕ) → j + k ≡ m → sum j g + up k j g ≡ sum m g
unfolding sum up
sum_up zero j m g e =
    let a : j ≡ m = omega arith in
    omega (arith, ap (λ (x : ℕ). sum x g) a)
sum_up (suc k) j m g e = omega (arith, sum_up k (suc j) m g (omega arith))

pub up_sum : (k j l : ℕ) (g : ℕ → ℕ → ℕ) → up k j (λ i. sum l (λ c. g c i)) ≡ sum l (λ c. up k j (λ i. g c i))
unfolding up
up_sum zero j l g = sym (sum_zero l)
up_sum (suc k) j l g = ap (λ (x : ℕ). sum l (λ c. g c j) + x) (up_sum k (suc j) l g) ∙ sym (sum_add l (λ c. g c j) (λ c. up k (suc j) (λ i. g c i)))

-- An order holds of a bound itself or of one more.
on-leb_suc : (x j a : ℕ) → on (leb j x) a ≡ on (eqb x j) a + on (leb (suc j) x) a
on-leb_suc x j a = go (leb j x) refl (leb (suc j) x) refl
  where
    go : (t : Bool) → leb j x ≡ t → (s : Bool) → leb (suc j) x ≡ s → on (leb j x) a ≡ on (eqb x j) a + on (leb (suc j) x) a
    go true p true q =
        let e : on (eqb x j) a ≡ 0 = on_no (eqb x j) a (ne_eqb x j (λ y. omega (arith, leb-true (suc j) x q))) in
        omega (arith, on_yes (leb j x) a p, on_yes (leb (suc j) x) a q)
    go true p false q =
        let e : on (eqb x j) a ≡ a = on_yes (eqb x j) a (eq-eqb x j (omega (arith, leb-false (suc j) x q, leb-true j x p))) in
        omega (arith, on_yes (leb j x) a p, on_no (leb (suc j) x) a q)
    go false p true q = absurd (omega (arith, leb-true (suc j) x q, leb-false j x p))
    go false p false q =
        let e : on (eqb x j) a ≡ 0 = on_no (eqb x j) a (ne_eqb x j (λ y. omega (arith, leb-false j x p))) in
        omega (arith, on_no (leb j x) a p, on_no (leb (suc j) x) a q)

pub up_one : (k j x a : ℕ) → x < j + k → up k j (λ i. on (eqb x i) a) ≡ on (leb j x) a
unfolding up
up_one zero j x a h = sym (on_no (leb j x) a (lt-leb j x (omega arith)))
up_one (suc k) j x a h = omega (arith, on-leb_suc x j a, up_one k (suc j) x a (omega arith))
