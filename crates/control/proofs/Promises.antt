-- The promises of `control`, proved.
use mathlib.Core.Path.{◌≡◌, refl, sym, ap, ◌∙◌}
use mathlib.Core.Bool.{Bool, true, false, true≢false}
use mathlib.Core.List.{List, [], ◌∷◌}
use Prim.Native.Nat.{ℕ, zero, suc, ◌<◌, ◌≤◌}
use native.Mathlib.Nat.{lt_of_not-le}
use native.Mathlib.Omega.{arith}
use lib.Dec.{eqb-suc-zero}
use Rattle.std.proofs.Common.{Ok}
use lib.ListN.{length}
use lib.Ieee.{Float, le}
use lib.Ieee.Bits.{is_true}
use lib.Ieee.Fits.{and_l, and_r}
use Rattle.control.specs.declared.AcWatts.{AcWatts}
use Rattle.control.specs.declared.Reading.{Reading}
use Rattle.control.specs.declared.Reading.TheVariants.{Working, Failed}
use Rattle.control.specs.declared.Controller.{Controller}
use Rattle.control.specs.Step.{ac, errors, successor, Stepped, refused, stepped, step_number, step_place, controller_after}
use Rattle.control.specs.Call.{reading_of}
use Rattle.control.specs.Promises.{CapInRange, RangeStays, SuccessorGood, ZeroErrorKeepsCap, LeastError, working, MarkDecides, NoneWorkingKeepsCap, RefusedUnchanged, Sound, FirstUnsound, Refusals}
use Rattle.control.proofs.FloatOrder.{from_true}
use Rattle.control.proofs.Sound.{sound_good}
use Rattle.control.proofs.Outcomes.{AllSound, Outcome, bad_controller, bad_reading, all_sound, outcome}
use Rattle.control.proofs.Accepted.{accepted, successor-range, next_in_range, next_finite, zero_error_kept, least_first}

-- ---- Accepted steps

pub cap_in_range : CapInRange
cap_in_range s = is_true _ (next_in_range s)

pub range_stays : RangeStays
range_stays s = rw (accepted s).next_is (successor-range s.controller (errors s.readings))

pub successor_good : SuccessorGood
successor_good s =
    let c = s.controller in
    let sound = (accepted s).sound in
    let stays = range_stays s in
    let within = next_in_range s in
    sound_good s.next
    (record {
      k_above = rw stays.0 sound.k_above;
      k_most = rw stays.0 sound.k_most;
      low-least = rw stays.1 sound.low-least;
      low_cap = rw stays.1 (is_true _ (and_l (le c.low.0 s.next.cap.0) (le s.next.cap.0 c.high.0) within));
      cap_high = rw stays.2 (is_true _ (and_r (le c.low.0 s.next.cap.0) (le s.next.cap.0 c.high.0) within));
      high_most = rw stays.2 sound.high_most;
      k_finite = rw stays.0 sound.k_finite;
      low_finite = rw stays.1 sound.low_finite;
      cap_finite = is_true _ (next_finite s);
      high_finite = rw stays.2 sound.high_finite;
    })

pub zero_error_keeps_cap : ZeroErrorKeepsCap
zero_error_keeps_cap s error rest is_float w z = zero_error_kept s error rest is_float w (from_true z)

pub least_error : LeastError
least_error = least_first

-- ---- Working cords

working_counts : (readings : List Reading) → length (errors readings) ≡ working readings
unfolding errors working
working_counts [] = refl
working_counts (Working budget measured ∷ rest) = ap suc (working_counts rest)
working_counts (Failed ∷ rest) = working_counts rest

pub mark_decides : MarkDecides
mark_decides = record { counts = working_counts; called = λ mark budget measured. (only mark budget measured, λ e. rw e) }
  where
    only : (mark : ℕ) (budget measured : Float) → reading_of mark budget measured ≡ Failed → mark ≡ 0
    only zero budget measured e = refl
    only (suc mark) budget measured e =
        let works : Working (ac budget) (ac measured) ≡ Failed = rw (eqb-suc-zero mark) at e in
        let z : ◌≡◌ {A = Bool} true false = cc in
        absurd (true≢false z)

pub none_working_keeps_cap : NoneWorkingKeepsCap
unfolding successor
none_working_keeps_cap s none = (accepted s).next_is ∙ ap (successor s.controller) (empty (errors s.readings) (working_counts s.readings ∙ none))
  where
    empty : (es : List AcWatts) → length es ≡ 0 → es ≡ []
    empty [] e = refl
    empty (error ∷ rest) e = absurd (omega arith)

-- ---- Refusals

pub refused_unchanged : RefusedUnchanged
refused_unchanged c readings why after is = go (outcome c readings)
  where
    go : Outcome c readings → after ≡ c
    go (bad_controller unsound e) = ap controller_after (sym is ∙ e)
    go (bad_reading sound i found e) = ap controller_after (sym is ∙ e)
    go (all_sound sound all e) =
        let z : ◌≡◌ {A = Stepped} (refused why after) (Ok (successor c (errors readings))) = sym is ∙ e in
        let w : ◌≡◌ {A = Bool} true false = cc in
        absurd (true≢false w)

module _ (c : Controller) (readings : List Reading) where
  abbrev number : ℕ
  number = step_number (stepped c readings)

  abbrev place : ℕ
  place = step_place (stepped c readings)

  is_sixteen : Outcome c readings → number ≡ 16 → (Sound c → ⊥) × (place ≡ 0)
  is_sixteen (bad_controller unsound e) n = (unsound, ap step_place e)
  is_sixteen (bad_reading sound i found e) n = absurd (omega (arith, n, ap step_number e))
  is_sixteen (all_sound sound all e) n = absurd (omega (arith, n, ap step_number e))

  sixteen_is : Outcome c readings → (Sound c → ⊥) → number ≡ 16
  sixteen_is (bad_controller unsound e) not = ap step_number e
  sixteen_is (bad_reading sound i found e) not = absurd (not sound)
  sixteen_is (all_sound sound all e) not = absurd (not sound)

  is_seventeen : (i : ℕ) → Outcome c readings → (number ≡ 17) × (place ≡ i) → Sound c × FirstUnsound readings i
  is_seventeen i (bad_controller unsound e) n = absurd (omega (arith, n.0, ap step_number e))
  is_seventeen i (bad_reading sound j found e) n =
      let same : j ≡ i = sym (ap step_place e) ∙ n.1 in
      (sound, rw same at found)
  is_seventeen i (all_sound sound all e) n = absurd (omega (arith, n.0, ap step_number e))

  -- Of two first ones neither stands before the other.
  same_first : (i j : ℕ) → FirstUnsound readings i → FirstUnsound readings j → i ≡ j
  same_first i j f g =
      let not_before : j < suc i = lt_of_not-le (λ (l : suc i ≤ j). f.unsound (g.first i l)) in
      let not_after : i < suc j = lt_of_not-le (λ (l : suc j ≤ i). g.unsound (f.first j l)) in
      omega arith

  seventeen_is : (i : ℕ) → Outcome c readings → Sound c × FirstUnsound readings i → (number ≡ 17) × (place ≡ i)
  seventeen_is i (bad_controller unsound e) (sound, found) = absurd (unsound sound)
  seventeen_is i (bad_reading _ j first e) (sound, found) = (ap step_number e, ap step_place e ∙ same_first j i first found)
  seventeen_is i (all_sound _ all e) (sound, found) = absurd (found.unsound (all i found.within))

  is_accepted : Outcome c readings → number ≡ 0 → Sound c × AllSound readings
  is_accepted (bad_controller unsound e) n = absurd (omega (arith, n, ap step_number e))
  is_accepted (bad_reading sound i found e) n = absurd (omega (arith, n, ap step_number e))
  is_accepted (all_sound sound all e) n = (sound, all)

  accepted_is : Outcome c readings → Sound c × AllSound readings → number ≡ 0
  accepted_is (bad_controller unsound e) (sound, all) = absurd (unsound sound)
  accepted_is (bad_reading _ i found e) (sound, all) = absurd (found.unsound (all i found.within))
  accepted_is (all_sound _ _ e) (sound, all) = ap step_number e

pub refusals : Refusals
refusals = record {
  sixteen = λ c readings. (λ n. (is_sixteen c readings (outcome c readings) n).0, sixteen_is c readings (outcome c readings));
  sixteen_place = λ c readings n. (is_sixteen c readings (outcome c readings) n).1;
  seventeen = λ c readings i. (is_seventeen c readings i (outcome c readings), seventeen_is c readings i (outcome c readings));
  accepted = λ c readings. (is_accepted c readings (outcome c readings), accepted_is c readings (outcome c readings));
}
