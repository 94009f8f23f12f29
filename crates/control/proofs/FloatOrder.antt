-- Laws of the floats' order that `lib.Ieee` leaves out: `le` and `lt` off NaN, and what lies between finite values.
use mathlib.Core.Path.{◌≡◌, refl, sym, subst}
use mathlib.Core.Logic.{◌⊎◌, inl, inr}
use mathlib.Core.Bool.{Bool, true, false, not, cond, ◌&&◌, ◌||◌, true≢false}
use Prim.Native.Nat.{ℕ, ◌+◌, ◌*◌, ◌<◌, ◌≤◌}
use native.Mathlib.Nat.{eq-or-lt_of_le, eq-zero-or-pos, mul_comm, add-mul, mul-le-mul_right, le_of_mul-le-mul_right, zero-mul, mul_assoc}
use native.Mathlib.Omega.{arith}
use lib.Dec.{T, ltb, eqb, ltb→lt, lt→ltb, nltb→le, eqb→eq, eqb_refl, not_T}
use lib.Ieee.{Float, nan, inf, fin, up, down, lt, le, eq, below, level}
use lib.Ieee.Fits.{and_i, and_l, and_r, eq→eqb, down_pos}
use lib.Ieee.Bits.{is_false}
use lib.Ieee.Scale.{finite}

-- ---- Tests

pub or_l : (p q : Bool) → T p → T (p || q)
or_l true q t = tt
or_l false q t = absurd t

pub or_r : (p q : Bool) → T q → T (p || q)
or_r true q t = tt
or_r false q t = t

pub from_true : {p : Bool} → p ≡ true → T p
from_true e = subst T (sym e) tt

-- ---- What is no NaN

abbrev pub real : Float → Bool
real nan = false
real (inf s) = true
real (fin s m e) = true

pub le_real : (x y : Float) → T (le x y) → T (real x) × T (real y)
unfolding le
le_real nan y h = absurd h
le_real (inf s) nan h = absurd h
le_real (inf s) (inf t) h = (tt, tt)
le_real (inf s) (fin t n d) h = (tt, tt)
le_real (fin s m e) nan h = absurd h
le_real (fin s m e) (inf t) h = (tt, tt)
le_real (fin s m e) (fin t n d) h = (tt, tt)

pub finite_real : (x : Float) → T (finite x) → T (real x)
finite_real nan h = h
finite_real (inf s) h = absurd h
finite_real (fin s m e) h = tt

-- ---- The order is total off NaN

at_most : (a b : ℕ) (w : Bool) → T (not (ltb b a)) → T w → T (ltb a b || (eqb a b && w))
at_most a b w h t = go (eq-or-lt_of_le (nltb→le b a h))
  where
    go : (a ≡ b) ⊎ (a < b) → T (ltb a b || (eqb a b && w))
    go (inl e) = or_r (ltb a b) (eqb a b && w) (and_i (eqb a b) w (eq→eqb e) t)
    go (inr l) = or_l (ltb a b) (eqb a b && w) (lt→ltb a b l)

at_most_2 : (a b : ℕ) → T (not (ltb b a)) → T (ltb a b || (eqb b a && true))
at_most_2 a b h = go (eq-or-lt_of_le (nltb→le b a h))
  where
    go : (a ≡ b) ⊎ (a < b) → T (ltb a b || (eqb b a && true))
    go (inl e) = or_r (ltb a b) (eqb b a && true) (and_i (eqb b a) true (eq→eqb (sym e)) tt)
    go (inr l) = or_l (ltb a b) (eqb b a && true) (lt→ltb a b l)

to_false : {p : Bool} → p ≡ false → T (not p)
to_false e = subst (λ (b : Bool). T (not b)) (sym e) tt

both_zero : (a b : ℕ) → T (not (ltb 0 (a + b))) → T (eqb b a && eqb b 0)
both_zero a b h =
    let l : a + b ≤ 0 = nltb→le 0 (a + b) h in
    let p : b ≡ a = omega arith in
    let q : b ≡ 0 = omega arith in
    and_i (eqb b a) (eqb b 0) (eq→eqb p) (eq→eqb q)

some_or_none : (a b : ℕ) → T (ltb 0 (b + a) || (eqb b a && eqb b 0))
some_or_none a b = go (eq-zero-or-pos (b + a))
  where
    go : (b + a ≡ 0) ⊎ (0 < b + a) → T (ltb 0 (b + a) || (eqb b a && eqb b 0))
    go (inl e) =
        let p : b ≡ a = omega arith in
        let q : b ≡ 0 = omega arith in
        or_r (ltb 0 (b + a)) (eqb b a && eqb b 0) (and_i (eqb b a) (eqb b 0) (eq→eqb p) (eq→eqb q))
    go (inr l) = or_l (ltb 0 (b + a)) (eqb b a && eqb b 0) (lt→ltb 0 (b + a) l)

sizes : (s : Bool) (a : ℕ) (t : Bool) (b : ℕ) → below s a t b ≡ false → T (below t b s a || level t b s a)
sizes false a false b h = at_most b a true (to_false h) tt
sizes false a true b h = some_or_none a b
sizes true a false b h = both_zero a b (to_false h)
sizes true a true b h = at_most_2 a b (to_false h)

pub not_lt : (x y : Float) → T (real x) → T (real y) → lt x y ≡ false → T (le y x)
unfolding le
not_lt nan y p q h = absurd p
not_lt (inf s) nan p q h = absurd q
not_lt (inf false) (inf false) p q h = tt
not_lt (inf false) (inf true) p q h = tt
not_lt (inf true) (inf true) p q h = tt
not_lt (inf true) (inf false) p q h = absurd (true≢false h)
not_lt (inf false) (fin t n d) p q h = tt
not_lt (inf true) (fin t n d) p q h = absurd (true≢false h)
not_lt (fin s m e) nan p q h = absurd q
not_lt (fin s m e) (inf true) p q h = tt
not_lt (fin s m e) (inf false) p q h = absurd (true≢false h)
not_lt (fin s m e) (fin t n d) p q h = sizes s (m * up e * down d) t (n * up d * down e) h

pub le_refl : (x : Float) → T (real x) → T (le x x)
unfolding le
le_refl nan p = absurd p
le_refl (inf true) p = tt
le_refl (inf false) p = tt
le_refl (fin true m e) p =
    let a = m * up e * down e in
    or_r (ltb a a) (eqb a a && true) (and_i (eqb a a) true (eqb_refl a) tt)
le_refl (fin false m e) p =
    let a = m * up e * down e in
    or_r (ltb a a) (eqb a a && true) (and_i (eqb a a) true (eqb_refl a) tt)

-- ---- What is at most a bound is not above it

less_not : (a b : ℕ) (q : Bool) → (T q → a ≡ b) → T (ltb a b || (q && true)) → ltb b a ≡ false
less_not a b q g h = is_false (ltb b a) (not_T (ltb b a) (λ t. go (ltb a b) q (ltb→lt a b) g h (ltb→lt b a t)))
  where
    go : (p q : Bool) → (T p → a < b) → (T q → a ≡ b) → T (p || (q && true)) → b < a → ⊥
    go true q f g h l = let k = f tt in omega arith
    go false true f g h l = let k = g tt in omega arith
    go false false f g h l = h

zeros_not : (a b : ℕ) → T (eqb a b && eqb a 0) → ltb 0 (b + a) ≡ false
zeros_not a b h =
    let p = eqb→eq a b (and_l (eqb a b) (eqb a 0) h) in
    let q = eqb→eq a 0 (and_r (eqb a b) (eqb a 0) h) in
    let z : b + a ≡ 0 = omega arith in
    rw z

pub le_not_lt : (x y : Float) → T (le x y) → lt y x ≡ false
unfolding le
le_not_lt nan y h = absurd h
le_not_lt (inf s) nan h = absurd h
le_not_lt (inf false) (inf false) h = refl
le_not_lt (inf false) (inf true) h = absurd h
le_not_lt (inf true) (inf false) h = refl
le_not_lt (inf true) (inf true) h = refl
le_not_lt (inf false) (fin t n d) h = absurd h
le_not_lt (inf true) (fin t n d) h = refl
le_not_lt (fin s m e) nan h = absurd h
le_not_lt (fin s m e) (inf false) h = refl
le_not_lt (fin s m e) (inf true) h = absurd h
le_not_lt (fin false m e) (fin false n d) h = less_not (m * up e * down d) (n * up d * down e) (eqb (m * up e * down d) (n * up d * down e)) (eqb→eq (m * up e * down d) (n * up d * down e)) h
le_not_lt (fin false m e) (fin true n d) h = zeros_not (m * up e * down d) (n * up d * down e) h
le_not_lt (fin true m e) (fin false n d) h = refl
le_not_lt (fin true m e) (fin true n d) h =
    less_not (n * up d * down e) (m * up e * down d) (eqb (m * up e * down d) (n * up d * down e))
    (λ t. sym (eqb→eq (m * up e * down d) (n * up d * down e) t)) h

-- ---- A number equals itself

pub eq_refl : (x : Float) → T (real x) → T (eq x x)
unfolding eq
eq_refl nan p = absurd p
eq_refl (inf true) p = tt
eq_refl (inf false) p = tt
eq_refl (fin true m e) p = and_i (eqb (m * up e * down e) (m * up e * down e)) true (eqb_refl (m * up e * down e)) tt
eq_refl (fin false m e) p = and_i (eqb (m * up e * down e) (m * up e * down e)) true (eqb_refl (m * up e * down e)) tt

-- ---- `le` is transitive: a value as what it has above zero and what below

abbrev over : Bool → ℕ → ℕ
over s a = cond s 0 a

abbrev under : Bool → ℕ → ℕ
under s a = cond s a 0

or_le : (a b : ℕ) (q : Bool) → (T q → a ≡ b) → T (ltb a b || (q && true)) → a ≤ b
or_le a b q g h = go (ltb a b) q (ltb→lt a b) g h
  where
    go : (p q : Bool) → (T p → a < b) → (T q → a ≡ b) → T (p || (q && true)) → a ≤ b
    go true q f g h = let k = f tt in omega arith
    go false true f g h = let k = g tt in omega arith
    go false false f g h = absurd h

le_says : (s : Bool) (a : ℕ) (t : Bool) (b : ℕ) → T (below s a t b || level s a t b) → over s a + under t b ≤ over t b + under s a
le_says false a false b h = let l = or_le a b (eqb a b) (eqb→eq a b) h in omega arith
le_says false a true b h =
    let p = eqb→eq a b (and_l (eqb a b) (eqb a 0) h) in
    let q = eqb→eq a 0 (and_r (eqb a b) (eqb a 0) h) in
    omega arith
le_says true a false b h = omega arith
le_says true a true b h = let l = or_le b a (eqb a b) (λ t. sym (eqb→eq a b t)) h in omega arith

le→nltb : (a b : ℕ) → a ≤ b → T (not (ltb b a))
le→nltb a b h = not_T (ltb b a) (λ t. clash (ltb→lt b a t))
  where
    clash : b < a → ⊥
    clash l = omega arith

says_le : (s : Bool) (a : ℕ) (t : Bool) (b : ℕ) → over s a + under t b ≤ over t b + under s a → T (below s a t b || level s a t b)
says_le false a false b h =
    let l : a ≤ b = omega arith in
    at_most a b true (le→nltb a b l) tt
says_le false a true b h =
    let p : a ≡ b = omega arith in
    let q : a ≡ 0 = omega arith in
    and_i (eqb a b) (eqb a 0) (eq→eqb p) (eq→eqb q)
says_le true a false b h = some_or_none b a
says_le true a true b h =
    let l : b ≤ a = omega arith in
    at_most_2 b a (le→nltb b a l)

chain : (px nx py ny pz nz p q r : ℕ) → 0 < q → px * q + ny * p ≤ py * p + nx * q → py * r + nz * q ≤ pz * q + ny * r → px * r + nz * p ≤ pz * p + nx * r
chain px nx py ny pz nz p q r Q h k =
    let h' = simp (add-mul, mul_assoc) at (mul-le-mul_right r h) in
    let k' = simp (add-mul, mul_assoc, mul_comm) at (mul-le-mul_right p k) in
    let g : (px * r + nz * p) * q ≤ (pz * p + nx * r) * q = simp (add-mul, mul_assoc, mul_comm) (omega arith) in
    le_of_mul-le-mul_right g Q

over_mul : (s : Bool) (a b : ℕ) → over s (a * b) ≡ over s a * b
over_mul true a b = sym (zero-mul b)
over_mul false a b = refl

under_mul : (s : Bool) (a b : ℕ) → under s (a * b) ≡ under s a * b
under_mul true a b = refl
under_mul false a b = sym (zero-mul b)

pub le_trans : (x y z : Float) → T (real y) → T (le x y) → T (le y z) → T (le x z)
unfolding le
le_trans x nan z f p q = absurd f
le_trans nan (inf t) z f p q = absurd p
le_trans (inf true) (inf t) nan f p q = absurd q
le_trans (inf true) (inf t) (inf true) f p q = tt
le_trans (inf true) (inf t) (inf false) f p q = tt
le_trans (inf true) (inf t) (fin u o g) f p q = tt
le_trans (inf false) (inf true) z f p q = absurd p
le_trans (inf false) (inf false) z f p q = q
le_trans (fin s m e) (inf true) z f p q = absurd p
le_trans (fin s m e) (inf false) nan f p q = absurd q
le_trans (fin s m e) (inf false) (inf true) f p q = absurd q
le_trans (fin s m e) (inf false) (inf false) f p q = tt
le_trans (fin s m e) (inf false) (fin u o g) f p q = absurd q
le_trans nan (fin t n d) z f p q = absurd p
le_trans (inf false) (fin t n d) z f p q = absurd p
le_trans (inf true) (fin t n d) nan f p q = absurd q
le_trans (inf true) (fin t n d) (inf true) f p q = absurd q
le_trans (inf true) (fin t n d) (inf false) f p q = tt
le_trans (inf true) (fin t n d) (fin u o g) f p q = tt
le_trans (fin s m e) (fin t n d) nan f p q = absurd q
le_trans (fin s m e) (fin t n d) (inf true) f p q = absurd q
le_trans (fin s m e) (fin t n d) (inf false) f p q = tt
le_trans (fin s m e) (fin t n d) (fin u o g) f p q =
    let h = simp (over_mul, under_mul) at (le_says s (m * up e * down d) t (n * up d * down e) p) in
    let k = simp (over_mul, under_mul) at (le_says t (n * up d * down g) u (o * up g * down d) q) in
    says_le s (m * up e * down g) u (o * up g * down e)
    (simp (over_mul, under_mul)
    (chain (over s m * up e) (under s m * up e) (over t n * up d) (under t n * up d) (over u o * up g) (under u o * up g) (down e) (down d) (down g) (down_pos d) h k))

-- ---- `lt` beside `le`

pub lt_le : (x y : Float) → T (lt x y) → T (le x y)
unfolding le
lt_le x y h = or_l (lt x y) (eq x y) h

module _ (x y z : Float) (x_real : T (real x)) (y_real : T (real y)) (z_real : T (real z)) where
  -- What would not be less would be no less, and against one of the two.
  pub le_lt_trans : T (le x y) → T (lt y z) → T (lt x z)
  le_lt_trans p q = go (lt x z) refl
    where
      go : (b : Bool) → lt x z ≡ b → T b
      go true e = tt
      go false e = absurd (subst T (le_not_lt z y (le_trans z x y x_real (not_lt x z x_real z_real e) p)) q)

  pub lt_le_trans : T (lt x y) → T (le y z) → T (lt x z)
  lt_le_trans p q = go (lt x z) refl
    where
      go : (b : Bool) → lt x z ≡ b → T b
      go true e = tt
      go false e = absurd (subst T (le_not_lt y x (le_trans y z x z_real q (not_lt x z x_real z_real e))) p)

-- ---- What lies between finite values is finite
abbrev pub topless : Float → Bool
topless nan = false
topless (inf s) = s
topless (fin s m e) = true

abbrev pub bottomless : Float → Bool
bottomless nan = false
bottomless (inf s) = not s
bottomless (fin s m e) = true

pub topless_down : (x y : Float) → T (le x y) → T (topless y) → T (topless x)
unfolding le
topless_down nan y h p = absurd h
topless_down (inf true) y h p = tt
topless_down (inf false) nan h p = absurd h
topless_down (inf false) (inf true) h p = absurd h
topless_down (inf false) (inf false) h p = absurd p
topless_down (inf false) (fin t n d) h p = absurd h
topless_down (fin s m e) y h p = tt

pub bottomless_up : (x y : Float) → T (le x y) → T (bottomless x) → T (bottomless y)
unfolding le
bottomless_up nan y h p = absurd h
bottomless_up (inf true) y h p = absurd p
bottomless_up (inf false) nan h p = absurd h
bottomless_up (inf false) (inf true) h p = absurd h
bottomless_up (inf false) (inf false) h p = tt
bottomless_up (inf false) (fin t n d) h p = absurd h
bottomless_up (fin s m e) nan h p = absurd h
bottomless_up (fin s m e) (inf true) h p = absurd h
bottomless_up (fin s m e) (inf false) h p = tt
bottomless_up (fin s m e) (fin t n d) h p = tt

pub finite_topless : (x : Float) → T (finite x) → T (topless x)
finite_topless nan h = absurd h
finite_topless (inf s) h = absurd h
finite_topless (fin s m e) h = tt

pub finite_bottomless : (x : Float) → T (finite x) → T (bottomless x)
finite_bottomless nan h = absurd h
finite_bottomless (inf s) h = absurd h
finite_bottomless (fin s m e) h = tt

pub is_finite : (x : Float) → T (bottomless x) → T (topless x) → T (finite x)
is_finite nan p q = absurd p
is_finite (inf true) p q = absurd p
is_finite (inf false) p q = absurd q
is_finite (fin s m e) p q = tt
