-- Accepted steps: no operation makes a NaN, so that the new cap lies in the range; and an error of zero makes a change of zero.
use mathlib.Core.Path.{◌≡◌, refl, sym, ap, ◌∙◌}
use mathlib.Core.Bool.{Bool, true, false, cond, ◌&&◌, ◌||◌, beq, true≢false}
use mathlib.Core.List.{List, [], ◌∷◌}
use mathlib.Core.Logic.{◌⊎◌, inl, inr}
use Prim.Native.Nat.{ℕ, zero, suc, ◌*◌, ◌^◌, ◌<◌, ◌≤◌}
use native.Mathlib.Nat.{zero-lt-suc, zero-mul}
use native.Mathlib.Omega.{arith}
use Rattle.std.proofs.Common.{Ok}
use lib.IntN.{pos}
use lib.Dec.{T, eqb, eqb→eq}
use lib.ListN.{length, get_or}
use lib.Ieee.{Float, nan, inf, fin, binary64, fits, up, down, mul, lt, le, eq, of_int}
use lib.Ieee.Bits.{is_true}
use lib.Ieee.Fits.{and_i, and_l, and_r, up_pos, eq→eqb}
use lib.Ieee.Positive.{positive}
use lib.Ieee.Scale.{finite}
use Rattle.control.specs.declared.AcWatts.{AcWatts}
use Rattle.control.specs.declared.DcWatts.{DcWatts}
use Rattle.control.specs.declared.Reading.{Reading}
use Rattle.control.specs.declared.Reading.TheVariants.{Working, Failed}
use Rattle.control.specs.declared.Controller.{Controller}
use Rattle.control.specs.Step.{ac, float0, ordered, errors, lesser, least, dc_change, sum, cut, with_cap, successor, Stepped, stepped, step_number}
use Rattle.control.specs.Promises.{AcceptedStep, Sound, Kept, FirstLeast}
use Rattle.control.proofs.FloatOrder.{real, from_true, not_lt, le_refl, le_trans, lt_le, le_lt_trans, lt_le_trans, eq_refl, finite_real, bottomless_up, topless_down, finite_bottomless, finite_topless, is_finite}
use Rattle.control.proofs.FloatRounding.{zeroed, no_size, add_real, mul_real, mul-zero, count_positive}
use Rattle.control.proofs.FloatCut.{cut-within, cut_zero_added}
use Rattle.control.proofs.Sound.{efficiency_positive}
use Rattle.control.proofs.Cords.{Reals, no_reals, reals, error_real}
use Rattle.control.proofs.Outcomes.{AllSound, Outcome, bad_controller, bad_reading, all_sound, outcome}

-- ---- What an accepted step is

pub record Successor (s : AcceptedStep) : Type 0 where
  pub sound : Sound s.controller
  pub readings_sound : AllSound s.readings
  pub next_is : s.next ≡ successor s.controller (errors s.readings)

pub accepted : (s : AcceptedStep) → Successor s
accepted s = go (outcome s.controller s.readings)
  where
    step : Stepped
    step = stepped s.controller s.readings

    number : step_number step ≡ 0
    number = ap step_number s.is

    go : Outcome s.controller s.readings → Successor s
    go (bad_controller unsound e) = absurd (omega (arith, number, ap step_number e))
    go (bad_reading sound i found e) = absurd (omega (arith, number, ap step_number e))
    go (all_sound sound all e) =
        let same : Ok s.next ≡ Ok (successor s.controller (errors s.readings)) = sym s.is ∙ e in
        record { sound = sound; readings_sound = all; next_is = cc }

-- ---- No NaN

errors_real : (readings : List Reading) → AllSound readings → Reals (errors readings)
unfolding errors
errors_real [] all = no_reals
errors_real (Failed ∷ rest) all = errors_real rest (λ i h. all (suc i) (omega arith))
errors_real (Working budget measured ∷ rest) all =
    reals (error_real budget measured (all 0 (omega arith))) (errors_real rest (λ i h. all (suc i) (omega arith)))

least_real : (error : AcWatts) (rest : List AcWatts) → T (real error.0) → Reals rest → T (real (least error rest).0)
unfolding least
least_real error [] h no_reals = h
least_real error (next ∷ rest) h (reals k more) = least_real (lesser error next) rest (go (lt next.0 error.0)) more
  where
    go : (b : Bool) → T (real (cond b next.0 error.0))
    go true = k
    go false = h

-- ---- The least error, and the first of equals

first_least : (error : AcWatts) (rest : List AcWatts) → T (real error.0) → Reals rest → FirstLeast (error ∷ rest) (least error rest)
unfolding least
first_least error [] h no_reals =
    record { place = 0; within = omega arith; is = refl; least = λ j l. only j l; first = λ j l. absurd (omega arith) }
  where
    only : (j : ℕ) → j < 1 → le error.0 (get_or (error ∷ []) j (ac nan)).0 ≡ true
    only zero l = is_true _ (le_refl error.0 h)
    only (suc j) l = absurd (omega arith)
first_least error (next ∷ rest) h (reals k more) = choose (lt next.0 error.0) refl (first_least next rest k more) (first_least error rest h more)
  where
    -- The next is less: what is first among it and the rest comes a place later.
    later : T (lt next.0 error.0) → FirstLeast (next ∷ rest) (least next rest) → FirstLeast (error ∷ next ∷ rest) (least next rest)
    later less f =
        record { place = suc f.place; within = omega (arith, f.within); is = f.is; least = at_most; first = below_all }
      where
        x : Float
        x = (least next rest).0

        x_real : T (real x)
        x_real = least_real next rest k more

        at_most : (j : ℕ) → j < length (error ∷ next ∷ rest) → le x (get_or (error ∷ next ∷ rest) j (ac nan)).0 ≡ true
        at_most zero l = is_true _ (le_trans x next.0 error.0 k (from_true (f.least 0 (omega arith))) (lt_le next.0 error.0 less))
        at_most (suc j) l = f.least j (omega arith)

        below_all : (j : ℕ) → j < suc f.place → lt x (get_or (error ∷ next ∷ rest) j (ac nan)).0 ≡ true
        below_all zero l = is_true _ (le_lt_trans x next.0 error.0 x_real k h (from_true (f.least 0 (omega arith))) less)
        below_all (suc j) l = f.first j (omega arith)

    -- The next is not less: it stands behind the error, and nothing of it is told.
    passed_over : T (le error.0 next.0) → FirstLeast (error ∷ rest) (least error rest) → FirstLeast (error ∷ next ∷ rest) (least error rest)
    passed_over no_less f = at_place f.place refl
      where
        x : Float
        x = (least error rest).0

        x_real : T (real x)
        x_real = least_real error rest h more

        at_most : (j : ℕ) → j < length (error ∷ next ∷ rest) → le x (get_or (error ∷ next ∷ rest) j (ac nan)).0 ≡ true
        at_most zero l = f.least 0 (omega arith)
        at_most (suc zero) l = is_true _ (le_trans x error.0 next.0 h (from_true (f.least 0 (omega arith))) no_less)
        at_most (suc (suc j)) l = f.least (suc j) (omega arith)

        at_place : (p : ℕ) → f.place ≡ p → FirstLeast (error ∷ next ∷ rest) (least error rest)
        at_place zero e =
            record { place = 0; within = omega arith; is = ap (λ (i : ℕ). get_or (error ∷ rest) i (ac nan)) (sym e) ∙ f.is; least = at_most; first = λ j l. absurd (omega arith) }
        at_place (suc p) e =
            record {
              place = suc (suc p);
              within = omega (arith, f.within, e);
              is = ap (λ (i : ℕ). get_or (error ∷ rest) i (ac nan)) (sym e) ∙ f.is;
              least = at_most;
              first = below_all;
            }
          where
            below_all : (j : ℕ) → j < suc (suc p) → lt x (get_or (error ∷ next ∷ rest) j (ac nan)).0 ≡ true
            below_all zero l = f.first 0 (omega (arith, e))
            below_all (suc zero) l = is_true _ (lt_le_trans x error.0 next.0 x_real h k (from_true (f.first 0 (omega (arith, e)))) no_less)
            below_all (suc (suc j)) l = f.first (suc j) (omega (arith, e))

    choose : (b : Bool) → lt next.0 error.0 ≡ b → FirstLeast (next ∷ rest) (least next rest) → FirstLeast (error ∷ rest) (least error rest)
        → FirstLeast (error ∷ next ∷ rest) (least (ac (cond b next.0 error.0)) rest)
    choose true e f g = later (from_true e) f
    choose false e f g = passed_over (not_lt next.0 error.0 k h e) g

pub least_first : (s : AcceptedStep) (error : AcWatts) (rest : List AcWatts) → errors s.readings ≡ error ∷ rest → FirstLeast (errors s.readings) (least error rest)
least_first s error rest e = rw e (go (rw e at (errors_real s.readings (accepted s).readings_sound)))
  where
    go : Reals (error ∷ rest) → FirstLeast (error ∷ rest) (least error rest)
    go (reals h more) = first_least error rest h more

-- There are no more errors than readings, so that a float counts them.
few_errors : (readings : List Reading) → length (errors readings) ≤ length readings
unfolding errors
few_errors [] = omega arith
few_errors (Failed ∷ rest) = omega (arith, few_errors rest)
few_errors (Working budget measured ∷ rest) = omega (arith, few_errors rest)

-- ---- The new cap

module _ (c : Controller) (sound : Sound c) where
  low_high : T (le c.low.0 c.high.0)
  low_high = le_trans c.low.0 c.cap.0 c.high.0 (finite_real c.cap.0 (from_true sound.cap_finite)) (from_true sound.low_cap) (from_true sound.cap_high)

  k_positive : T (positive c.k)
  k_positive = efficiency_positive c.k (and_i (lt float0 c.k) _ (from_true sound.k_above) (from_true sound.k_most))

  change_real : (error : AcWatts) (count : ℕ) → T (real error.0) → 0 < count → count ≤ 2 ^ 53 → T (real (dc_change error c.k count).0)
  change_real error count r p q =
      mul_real binary64 (mul binary64 error.0 c.k) (of_int binary64 (pos count)) (mul_real binary64 error.0 c.k r k_positive) (count_positive count p q)

  change_zero : (error : AcWatts) (count : ℕ) → T (zeroed error.0) → 0 < count → count ≤ 2 ^ 53 → T (zeroed (dc_change error c.k count).0)
  change_zero error count z p q =
      mul-zero binary64 (mul binary64 error.0 c.k) (of_int binary64 (pos count)) (mul-zero binary64 error.0 c.k z k_positive) (count_positive count p q)

  successor_in_range : (es : List AcWatts) → Reals es → length es ≤ 2 ^ 53 → T (ordered c.low.0 (successor c es).cap.0 c.high.0)
  unfolding successor
  successor_in_range [] no_reals h = and_i (le c.low.0 c.cap.0) (le c.cap.0 c.high.0) (from_true sound.low_cap) (from_true sound.cap_high)
  successor_in_range (e ∷ es) (reals r rs) h =
      let change = dc_change (least e es) c.k (suc (length es)) in
      cut-within (sum c.cap change) c.low c.high
      (add_real binary64 c.cap.0 change.0 (from_true sound.cap_finite) (change_real (least e es) (suc (length es)) (least_real e es r rs) (zero-lt-suc (length es)) h))
      low_high

-- k, low and high are the controller's own.
pub successor-range : (c : Controller) (es : List AcWatts) → ((successor c es).k ≡ c.k) × ((successor c es).low ≡ c.low) × ((successor c es).high ≡ c.high)
unfolding successor
successor-range c [] = (refl, refl, refl)
successor-range c (e ∷ es) = (refl, refl, refl)

pub next_in_range : (s : AcceptedStep) → T (ordered s.controller.low.0 s.next.cap.0 s.controller.high.0)
next_in_range s =
    let a = accepted s in
    let few : length (errors s.readings) ≤ 2 ^ 53 = omega (arith, few_errors s.readings, s.four) in
    rw a.next_is (successor_in_range s.controller a.sound (errors s.readings) (errors_real s.readings a.readings_sound) few)

pub next_finite : (s : AcceptedStep) → T (finite s.next.cap.0)
next_finite s =
    let c = s.controller in
    let sound = (accepted s).sound in
    let within = next_in_range s in
    is_finite s.next.cap.0
    (bottomless_up c.low.0 s.next.cap.0 (and_l (le c.low.0 s.next.cap.0) _ within) (finite_bottomless c.low.0 (from_true sound.low_finite)))
    (topless_down s.next.cap.0 c.high.0 (and_r (le c.low.0 s.next.cap.0) _ within) (finite_topless c.high.0 (from_true sound.high_finite)))

-- ---- An error of zero

equal_zero : (x : Float) → T (eq x float0) → T (zeroed x)
unfolding eq
equal_zero nan h = absurd h
equal_zero (inf s) h = absurd h
equal_zero (fin s m e) h =
    eq→eqb (no_size m (up e) 1 (down e) (up_pos e) (zero-lt-suc 0) (eqb→eq (m * up e * 1) (0 * down e) (and_l (eqb (m * up e * 1) (0 * down e)) _ h)))

zero_equal : (x : Float) → T (zeroed x) → eq x float0 ≡ true
unfolding eq
zero_equal nan z = absurd z
zero_equal (inf s) z = absurd z
zero_equal (fin s m e) z =
    let none : m * up e * 1 ≡ 0 = rw (eqb→eq m 0 z) (simp zero-mul) in
    rw (none, zero-mul (down e)) (either s)
  where
    either : (s : Bool) → eqb 0 0 && (beq s false || eqb 0 0) ≡ true
    either true = refl
    either false = refl

pub zero_error_kept : (s : AcceptedStep) (error : AcWatts) (rest : List AcWatts) → fits binary64 s.controller.cap.0 ≡ true
    → errors s.readings ≡ error ∷ rest → T (eq (least error rest).0 float0) → Kept s
unfolding successor
zero_error_kept s error rest is_float w z = go (cut_zero_added c.cap change c.low c.high (from_true is_float) cap_finite change_is_zero (from_true a.sound.low_cap) (from_true a.sound.cap_high))
  where
    c : Controller
    c = s.controller

    a : Successor s
    a = accepted s

    count : ℕ
    count = suc (length rest)

    change : DcWatts
    change = dc_change (least error rest) c.k count

    cap_finite : T (finite c.cap.0)
    cap_finite = from_true a.sound.cap_finite

    few : count ≤ 2 ^ 53
    few = omega (arith, few_errors s.readings, s.four, ap length w)

    change_is_zero : T (zeroed change.0)
    change_is_zero = change_zero c a.sound (least error rest) count (equal_zero (least error rest).0 z) (zero-lt-suc (length rest)) few

    next_is : s.next ≡ with_cap c (cut (sum c.cap change) c.low c.high)
    next_is = a.next_is ∙ ap (successor c) w

    go : (cut (sum c.cap change) c.low c.high ≡ c.cap) ⊎ (T (zeroed c.cap.0) × T (eq (cut (sum c.cap change) c.low c.high).0 c.cap.0)) → Kept s
    go (inl e) =
        let same : s.next ≡ c = next_is ∙ ap (with_cap c) e in
        record { value = rw same (is_true _ (eq_refl c.cap.0 (finite_real c.cap.0 cap_finite))); whole = λ h. same }
    go (inr e) = record {
      value = rw next_is (is_true _ e.1);
      whole = λ h. absurd (true≢false (sym (zero_equal c.cap.0 e.0) ∙ h));
    }
