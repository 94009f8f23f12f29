-- Laws of rounded operations that `lib.Ieee` leaves out: none of a step's makes a NaN, and a zero added leaves a value.
use mathlib.Core.Path.{◌≡◌, refl, sym, ap, ◌∙◌}
use mathlib.Core.Logic.{◌⊎◌, inl, inr}
use mathlib.Core.Bool.{Bool, true, false, cond, ◌&&◌, beq}
use Prim.Native.Nat.{ℕ, zero, suc, ◌+◌, ◌-◌, ◌*◌, ◌%◌, ◌^◌, ◌<◌, ◌≤◌}
use native.Mathlib.Nat.{eq-zero-or-pos, mul-pos, mul_comm, le_of_suc-le-suc, lt_of_not-le, lt_irrefl, lt_of_lt_of_le, zero-mul, one-mul, add-zero, sub-zero, mul-one, mul_assoc, mul_left_comm, mul-lt-mul_of_pos_right, pow-succ'}
use native.Mathlib.Omega.{arith}
use lib.IntN.{ℤ, pos, negsuc}
use lib.Dec.{T, leb, ltb, eqb, leb→le, ltb→lt, lt→ltb, eqb→eq, not_T, eqb-suc-zero}
use lib.Ieee.{Float, nan, inf, fin, Format, binary64, prec, low, emax, up, down, odd, units, round, sum, add, sub, neg, mul, fits, of_int}
use lib.Ieee.Fits.{and_l, and_r, eq→eqb, round_is, round-fits, up_pos, down_pos}
use lib.Ieee.Exact.{HasValue, round_exact}
use lib.Ieee.Bits.{is_true, is_false}
use lib.Ieee.Back.{round_whole}
use lib.Pow.{pow_pos, pow-add, pow-lt}
use lib.Ieee.Positive.{positive, positive_of_value}
use lib.Ieee.Scale.{finite, round_same}
use Rattle.control.proofs.FloatOrder.{real, finite_real}

-- ---- No operation of a step makes a NaN

units_real : (f : Format) (s : Bool) (q k : ℕ) → T (real (units f s q k))
unfolding units odd
units_real f s q k = go (ltb (q * 2 ^ k) (2 ^ (low f + suc (emax f)))) q
  where
    go : (b : Bool) (p : ℕ) → T (real (cond b (odd (suc (prec f)) s p k (low f)) (inf s)))
    go true zero = tt
    go true (suc p) = tt
    go false p = tt

pub round_real : (f : Format) (s : Bool) (a c : ℕ) → T (real (round f s a c))
round_real f s a c = rw (round_is f s a c) (units_real f s _ _)

cond_real : (b : Bool) (x y : Float) → T (real x) → T (real y) → T (real (cond b x y))
cond_real true x y p q = p
cond_real false x y p q = q

sum_real : (f : Format) (s : Bool) (a : ℕ) (t : Bool) (b c : ℕ) → T (real (sum f s a t b c))
unfolding sum
sum_real f s a t b c =
    cond_real (beq s t) _ _ (round_real f s (a + b) c)
    (cond_real (ltb a b) _ _ (round_real f t (b - a) c) (round_real f (s && ltb b a) (a - b) c))

pub add_real : (f : Format) (x y : Float) → T (finite x) → T (real y) → T (real (add f x y))
unfolding add
add_real f nan y p q = absurd p
add_real f (inf s) y p q = absurd p
add_real f (fin s m e) nan p q = absurd q
add_real f (fin s m e) (inf t) p q = tt
add_real f (fin s m e) (fin t n d) p q = sum_real f s _ t _ _

pub mul_real : (f : Format) (x y : Float) → T (real x) → T (positive y) → T (real (mul f x y))
unfolding mul
mul_real f x nan p q = absurd q
mul_real f x (inf t) p q = absurd q
mul_real f x (fin true n d) p q = absurd q
mul_real f nan (fin false n d) p q = absurd p
mul_real f (inf s) (fin false zero d) p q = absurd q
mul_real f (inf s) (fin false (suc n) d) p q = rw (eqb-suc-zero n) tt
mul_real f (fin s m e) (fin false n d) p q = round_real f _ _ _

pub neg_finite : (y : Float) → T (finite y) → T (finite (neg y))
unfolding neg
neg_finite nan h = h
neg_finite (inf s) h = h
neg_finite (fin s m e) h = tt

pub sub_real : (f : Format) (x y : Float) → T (finite x) → T (finite y) → T (real (sub f x y))
unfolding sub
sub_real f x y p q = add_real f x (neg y) p (finite_real (neg y) (neg_finite y q))

-- A count is positive.
pub count_positive : (n : ℕ) → 0 < n → n ≤ 2 ^ 53 → T (positive (of_int binary64 (pos n)))
unfolding of_int
count_positive n p h = positive_of_value (round binary64 false n 1) n 1 (round_whole binary64 false n h) p

-- ---- Zero, of either sign

abbrev pub zeroed : Float → Bool
zeroed nan = false
zeroed (inf s) = false
zeroed (fin s m e) = eqb m 0

pub no_size : (m u c d : ℕ) → 0 < u → 0 < c → m * u * c ≡ 0 * d → m ≡ 0
no_size m u c d U C h = go (eq-zero-or-pos m)
  where
    go : (m ≡ 0) ⊎ (0 < m) → m ≡ 0
    go (inl e) = e
    go (inr l) =
        let p : 0 < m * u * c = mul-pos (mul-pos l U) C in
        omega (arith, zero-mul d)

value_zero : (x : Float) (s : Bool) (c : ℕ) → 0 < c → HasValue x s 0 c → T (zeroed x)
value_zero nan s c p h = h
value_zero (inf t) s c p h = h
value_zero (fin t m e) s c p h = eq→eqb (no_size m (up e) c (down e) (up_pos e) p h.1)

round_zero : (f : Format) (s : Bool) (c : ℕ) → 0 < c → T (zeroed (round f s 0 c))
round_zero f s c p =
    value_zero (round f s 0 c) s c p
    (round_exact f s 0 c 0 0 p (pow_pos (prec f)) (pow_pos (low f + suc (emax f))) (simp zero-mul))

pub mul-zero : (f : Format) (x y : Float) → T (zeroed x) → T (positive y) → T (zeroed (mul f x y))
unfolding mul
mul-zero f nan y p q = absurd p
mul-zero f (inf s) y p q = absurd p
mul-zero f (fin s m e) nan p q = absurd q
mul-zero f (fin s m e) (inf t) p q = absurd q
mul-zero f (fin s m e) (fin true n d) p q = absurd q
mul-zero f (fin s m e) (fin false n d) p q =
    let z : m ≡ 0 = eqb→eq m 0 p in
    let w : m * up e * (n * up d) ≡ 0 = rw z (simp zero-mul) in
    rw w (round_zero f _ _ (mul-pos (down_pos e) (down_pos d)))

-- ---- A value that fits is written in one way, and rounding leaves it

even_odd : (m t : ℕ) → m % 2 ≡ 1 → m ≡ 2 * t → ⊥
even_odd m t o h = omega arith

odd_pow : (m n a b : ℕ) → m % 2 ≡ 1 → n % 2 ≡ 1 → m * 2 ^ a ≡ n * 2 ^ b → (m ≡ n) × (a ≡ b)
odd_pow m n zero zero o p h = (simp mul-one at h, refl)
odd_pow m n zero (suc b) o p h =
    absurd (even_odd m (n * 2 ^ b) o (simp mul-one at (h ∙ ap (λ (x : ℕ). n * x) (pow-succ' 2 b) ∙ mul_left_comm n 2 (2 ^ b))))
odd_pow m n (suc a) zero o p h =
    absurd (even_odd n (m * 2 ^ a) p (simp mul-one at (sym h ∙ ap (λ (x : ℕ). m * x) (pow-succ' 2 a) ∙ mul_left_comm m 2 (2 ^ a))))
odd_pow m n (suc a) (suc b) o p h =
    let l : m * 2 ^ suc a ≡ 2 * (m * 2 ^ a) = ap (λ (x : ℕ). m * x) (pow-succ' 2 a) ∙ mul_left_comm m 2 (2 ^ a) in
    let r : n * 2 ^ suc b ≡ 2 * (n * 2 ^ b) = ap (λ (x : ℕ). n * x) (pow-succ' 2 b) ∙ mul_left_comm n 2 (2 ^ b) in
    let e : m * 2 ^ a ≡ n * 2 ^ b = omega arith in
    let w = odd_pow m n a b o p e in
    (w.0, ap suc w.1)

-- what `fits` says of a value that is not zero
record Held (f : Format) (m : ℕ) (e : ℤ) : Type 0 where
  pub is_odd : m % 2 ≡ 1
  pub short : m < 2 ^ prec f
  pub fine : down e ≤ 2 ^ low f
  pub small : m * up e < 2 ^ suc (emax f) * down e

held : (f : Format) (s : Bool) (m : ℕ) (e : ℤ) → T (fits f (fin s (suc m) e)) → Held f (suc m) e
unfolding fits
held f s m e h =
    let p = eqb (suc m % 2) 1 in
    let q = ltb (suc m) (2 ^ prec f) in
    let r = leb (down e) (2 ^ low f) in
    let t = ltb (suc m * up e) (2 ^ suc (emax f) * down e) in
    let pqr = and_l (p && q && r) t h in
    let pq = and_l (p && q) r pqr in
    record {
      is_odd = eqb→eq (suc m % 2) 1 (and_l p q pq);
      short = ltb→lt (suc m) (2 ^ prec f) (and_r p q pq);
      fine = leb→le (down e) (2 ^ low f) (and_r (p && q) r pqr);
      small = ltb→lt (suc m * up e) (2 ^ suc (emax f) * down e) (and_r (p && q && r) t h);
    }

pow_le_back : (a l : ℕ) → 2 ^ a ≤ 2 ^ l → a ≤ l
pow_le_back a l h = le_of_suc-le-suc (lt_of_not-le (λ (g : suc l ≤ a). lt_irrefl (2 ^ l) (lt_of_lt_of_le (pow-lt g) h)))

exact : (f : Format) (m : ℕ) (e : ℤ) → Held f m e → (s : Bool) → HasValue (round f s (m * up e) (down e)) s (m * up e) (down e)
exact f m (pos k) h s =
    let l = low f in
    let g : m * 2 ^ k * 2 ^ l < 2 ^ suc (emax f) * 1 * 2 ^ l = mul-lt-mul_of_pos_right h.small (pow_pos l) in
    let w : m * 2 ^ (k + l) ≡ m * 2 ^ k * 2 ^ l = simp (pow-add, mul_assoc) in
    let v : 2 ^ (l + suc (emax f)) ≡ 2 ^ suc (emax f) * 1 * 2 ^ l = pow-add 2 l (suc (emax f)) ∙ simp (mul-one, mul_comm) in
    round_exact f s (m * 2 ^ k) 1 m (k + l) (pow_pos 0) h.short
    (rw (w, v) g)
    (simp (mul-one, pow-add, mul_assoc))
exact f m (negsuc k) h s =
    let l = low f in
    let d = 2 ^ suc k in
    let j = l - suc k in
    let inside : suc k ≤ l = pow_le_back (suc k) l h.fine in
    let sum : suc k + j ≡ l = omega arith in
    let e : d * 2 ^ j ≡ 2 ^ l = sym (pow-add 2 (suc k) j) ∙ ap (λ (x : ℕ). 2 ^ x) sum in
    let g : m * 1 * 2 ^ j < 2 ^ suc (emax f) * d * 2 ^ j = mul-lt-mul_of_pos_right h.small (pow_pos j) in
    let w : m * 2 ^ j ≡ m * 1 * 2 ^ j = ap (λ (x : ℕ). x * 2 ^ j) (sym (mul-one m)) in
    let v : 2 ^ (l + suc (emax f)) ≡ 2 ^ suc (emax f) * d * 2 ^ j =
    pow-add 2 l (suc (emax f)) ∙ mul_comm (2 ^ l) (2 ^ suc (emax f)) ∙ ap (λ (x : ℕ). 2 ^ suc (emax f) * x) (sym e) ∙ sym (mul_assoc (2 ^ suc (emax f)) d (2 ^ j)) in
    round_exact f s (m * 1) d m j (pow_pos (suc k)) h.short
    (rw (w, v) g)
    (ap (λ (x : ℕ). m * 1 * x) (sym e) ∙ ap (λ (x : ℕ). x * (d * 2 ^ j)) (mul-one m) ∙ ap (λ (x : ℕ). m * x) (mul_comm d (2 ^ j)) ∙ sym (mul_assoc m (2 ^ j) d))

one_power : (a : ℕ) → 2 ^ a ≡ 1 → a ≡ 0
one_power zero h = refl
one_power (suc a) h = absurd (no_half (2 ^ a) (sym (pow-succ' 2 a) ∙ h))
  where
    no_half : (x : ℕ) → 2 * x ≡ 1 → ⊥
    no_half x h = omega arith

no_sum : (a b : ℕ) → a + suc b ≡ 0 → ⊥
no_sum a b h = omega arith

-- odd numbers with their powers of two: equal as fractions, equal in both parts
same_parts : (m n : ℕ) (e d : ℤ) → m % 2 ≡ 1 → n % 2 ≡ 1 → m * up e * down d ≡ n * up d * down e → (m ≡ n) × (e ≡ d)
same_parts m n (pos a) (pos b) o p h =
    let w = odd_pow m n a b o p (simp mul-one at h) in
    (w.0, ap pos w.1)
same_parts m n (pos a) (negsuc b) o p h =
    absurd (no_sum a b (odd_pow m n (a + suc b) 0 o p (ap (λ (x : ℕ). m * x) (pow-add 2 a (suc b)) ∙ sym (mul_assoc m (2 ^ a) (2 ^ suc b)) ∙ h ∙ mul-one (n * 1))).1)
same_parts m n (negsuc a) (pos b) o p h =
    absurd (no_sum b a (odd_pow n m (b + suc a) 0 p o (ap (λ (x : ℕ). n * x) (pow-add 2 b (suc a)) ∙ sym (mul_assoc n (2 ^ b) (2 ^ suc a)) ∙ sym h ∙ mul-one (m * 1))).1)
same_parts m n (negsuc a) (negsuc b) o p h =
    let w = odd_pow m n (suc b) (suc a) o p (simp mul-one at h) in
    let q : b ≡ a = omega (arith, w.1) in
    (w.0, ap negsuc (sym q))

-- a zero that fits
pub plain_zero : (f : Format) (s : Bool) (e : ℤ) → T (fits f (fin s 0 e)) → e ≡ pos 0
unfolding fits
plain_zero f s (pos k) h = ap pos (one_power k (simp mul-one at (eqb→eq (2 ^ k * 1) 1 h)))
plain_zero f s (negsuc k) h =
    let z : suc k ≡ 0 = one_power (suc k) (simp one-mul at (eqb→eq (1 * 2 ^ suc k) 1 h)) in
    absurd (omega (arith, z))

-- a value of the format that is a finite one, is it
pub same_value : (f : Format) (x : Float) (s : Bool) (m : ℕ) (e : ℤ) → T (fits f x) → T (fits f (fin s m e)) → HasValue x s (m * up e) (down e) → x ≡ fin s m e
same_value f nan s m e p q v = absurd v
same_value f (inf t) s m e p q v = absurd v
same_value f (fin t zero d) s zero e p q v =
    let a : t ≡ s = v.0 in
    let b : d ≡ pos 0 = plain_zero f t d p in
    let c : e ≡ pos 0 = plain_zero f s e q in
    cc
same_value f (fin t zero d) s (suc m) e p q v =
    let z : suc m ≡ 0 = no_size (suc m) (up e) (down d) (up d * down e) (up_pos e) (down_pos d) (sym v.1 ∙ mul_assoc 0 (up d) (down e)) in
    absurd (omega (arith, z))
same_value f (fin t (suc n) d) s zero e p q v =
    let z : suc n ≡ 0 = no_size (suc n) (up d) (down e) (up e * down d) (up_pos d) (down_pos e) (v.1 ∙ mul_assoc 0 (up e) (down d)) in
    absurd (omega (arith, z))
same_value f (fin t (suc n) d) s (suc m) e p q v =
    let w = same_parts (suc n) (suc m) d e (held f t n d p).is_odd (held f s m e q).is_odd v.1 in
    let a : t ≡ s = v.0 in
    let b : suc n ≡ suc m = w.0 in
    let c : d ≡ e = w.1 in
    cc

kept : (f : Format) (s : Bool) (m : ℕ) (e : ℤ) → T (fits f (fin s m e)) → round f s (m * up e) (down e) ≡ fin s m e
kept f s m e h = same_value f (round f s (m * up e) (down e)) s m e (round-fits f s (m * up e) (down e)) h (value m h)
  where
    value : (m : ℕ) → T (fits f (fin s m e)) → HasValue (round f s (m * up e) (down e)) s (m * up e) (down e)
    value zero h =
        round_exact f s (0 * up e) (down e) 0 0 (down_pos e) (pow_pos (prec f)) (pow_pos (low f + suc (emax f))) (simp zero-mul)
    value (suc m) h = exact f (suc m) e (held f s m e h) s

-- ---- A zero added

pub never_below : (a : ℕ) → ltb a 0 ≡ false
never_below a = is_false (ltb a 0) (not_T (ltb a 0) (λ t. no_less a (ltb→lt a 0 t)))
  where
    no_less : (a : ℕ) → a < 0 → ⊥
    no_less a h = omega arith

zero_is : (f : Format) (a c : ℕ) → 0 < c → a ≡ 0 → round f false a c ≡ fin false 0 (pos 0)
unfolding fits
zero_is f a c p z =
    let e : a * 1 ≡ 0 * c = mul-one a ∙ z ∙ sym (zero-mul c) in
    round_same f false a c 0 1 p (pow_pos 0) e ∙ kept f false 0 (pos 0) tt

sum_zero : (f : Format) (s : Bool) (a : ℕ) (t : Bool) (c : ℕ) → (sum f s a t 0 c ≡ round f s a c) ⊎ ((a ≡ 0) × (sum f s a t 0 c ≡ round f false a c))
unfolding sum
sum_zero f true a true c = inl (ap (λ (x : ℕ). round f true x c) (add-zero a))
sum_zero f false a false c = inl (ap (λ (x : ℕ). round f false x c) (add-zero a))
sum_zero f false a true c = inl (rw (never_below a) (ap (λ (x : ℕ). round f false x c) (sub-zero a)))
sum_zero f true a false c = go (eq-zero-or-pos a)
  where
    go : (a ≡ 0) ⊎ (0 < a) → (sum f true a false 0 c ≡ round f true a c) ⊎ ((a ≡ 0) × (sum f true a false 0 c ≡ round f false a c))
    go (inl z) = inr (z, rw z refl)
    go (inr l) = inl (rw (never_below a, is_true (ltb 0 a) (lt→ltb 0 a l)) (ap (λ (x : ℕ). round f true x c) (sub-zero a)))

pub add_zero_is : (f : Format) (x y : Float) → T (fits f x) → T (finite x) → T (zeroed y)
    → (add f x y ≡ x) ⊎ (T (zeroed x) × (add f x y ≡ fin false 0 (pos 0)))
unfolding add
add_zero_is f nan y h p q = absurd p
add_zero_is f (inf s) y h p q = absurd p
add_zero_is f (fin s m e) nan h p q = absurd q
add_zero_is f (fin s m e) (inf t) h p q = absurd q
add_zero_is f (fin s m e) (fin t n d) h p q = rw none (go (sum_zero f s a t c))
  where
    a : ℕ
    a = m * up e * down d

    c : ℕ
    c = down e * down d

    none : n * up d * down e ≡ 0
    none = rw (eqb→eq n 0 q) (simp zero-mul)

    go : (sum f s a t 0 c ≡ round f s a c) ⊎ ((a ≡ 0) × (sum f s a t 0 c ≡ round f false a c))
        → (sum f s a t 0 c ≡ fin s m e) ⊎ (T (eqb m 0) × (sum f s a t 0 c ≡ fin false 0 (pos 0)))
    go (inl z) = inl (z ∙ round_same f s a c (m * up e) (down e) (mul-pos (down_pos e) (down_pos d)) (down_pos e)
        (mul_assoc (m * up e) (down d) (down e) ∙ ap (λ (x : ℕ). m * up e * x) (mul_comm (down d) (down e))) ∙ kept f s m e h)
    go (inr z) = inr (
      eq→eqb (no_size m (up e) (down d) 0 (up_pos e) (down_pos d) z.0),
      z.1 ∙ zero_is f a c (mul-pos (down_pos e) (down_pos d)) z.0,
    )
