-- The promises of `control_all`, proved.
use mathlib.Core.Path.{◌≡◌, refl, sym, ap, ◌∙◌}
use mathlib.Core.Bool.{Bool, true, false}
use mathlib.Core.List.{List}
use mathlib.Core.Logic.{◌⊎◌, inl, inr}
use Prim.Native.Nat.{ℕ, zero, suc, ◌+◌, ◌*◌, ◌<◌, ◌≤◌}
use native.Mathlib.Nat.{eq-or-lt_of_le, le_of_suc-le-suc, ne_of_lt}
use native.Mathlib.Omega.{arith}
use Rattle.std.proofs.Common.{Ok, Err}
use lib.ListN.{length, get_or, set}
use lib.Seq.{get_or-set_same, get_or-set_other}
use lib.Ieee.{Float, nan}
use Rattle.control.specs.declared.Reading.{Reading}
use Rattle.control.specs.declared.Controller.{Controller}
use Rattle.control.specs.Step.{Stepped, stepped, step_number, controller_after, errors}
use Rattle.control.specs.Call.{controller_of, controller_at, readings_at, figures_after}
use Rattle.control.proofs.Outcomes.{Outcome, bad_controller, bad_reading, all_sound, outcome}
use Rattle.control.proofs.Accepted.{successor-range}
use Rattle.control.proofs.Promises.{refused_unchanged}
use Rattle.outcomes.proofs.Outcomes.{accepted_is}
use Rattle.control_all.specs.Pass.{Pass, controller_count, own_step, stepped_to, numbers_to, passed, answer_of, pass_number, pass_figure}
use Rattle.control_all.specs.Promises.{AcceptedPass, single, EachAsSingle, StaysInside, Fits, RefusalEighteen}
use Rattle.control_all.proofs.Turns.{figures_after_other, stepped_to_ahead, length_stepped_to, length_numbers_to}
use Rattle.control_all.proofs.Lengths.{fit, fit_fits, unfit_fits}
use Rattle.control_all.proofs.Passes.{passed_accepted, passed_refused}

-- ---- What a step leaves

-- k, low and high after a step are the controller's own.
after-range : (c : Controller) (readings : List Reading)
    → ((controller_after (stepped c readings)).k ≡ c.k) × ((controller_after (stepped c readings)).low ≡ c.low) × ((controller_after (stepped c readings)).high ≡ c.high)
after-range c readings = go (outcome c readings)
  where
    go : Outcome c readings
        → ((controller_after (stepped c readings)).k ≡ c.k) × ((controller_after (stepped c readings)).low ≡ c.low) × ((controller_after (stepped c readings)).high ≡ c.high)
    go (bad_controller unsound e) = rw e (refl, refl, refl)
    go (bad_reading sound i found e) = rw e (refl, refl, refl)
    go (all_sound sound all e) = rw e (successor-range c (errors readings))

-- The cap after a step stands at its place, where it was the controller's before.
cap_after : (c : Controller) (readings : List Reading) (figures : List Float) (at : ℕ) → at < length figures → get_or figures at nan ≡ c.cap.0
    → get_or (figures_after (stepped c readings) figures at) at nan ≡ (controller_after (stepped c readings)).cap.0
cap_after c readings figures at h was = go (stepped c readings) refl
  where
    go : (step : Stepped) → stepped c readings ≡ step → get_or (figures_after step figures at) at nan ≡ (controller_after step).cap.0
    go (Ok next) e = get_or-set_same figures at next.cap.0 nan h
    go (Err turned) e = was ∙ ap (λ (x : Controller). x.cap.0) (sym (refused_unchanged c readings turned.refusal turned.controller e))

-- ---- Each controller

module _ (controllers : List Float) (working : List ℕ) (budgets measured : List Float) where
  abbrev own : ℕ → Stepped
  own = own_step controllers working budgets measured

  abbrev after : ℕ → List Float
  after = stepped_to controllers working budgets measured

  -- A figure that is no controller's cap is untouched.
  untouched : (n at : ℕ) → ((j : ℕ) → j < n → at ≡ 4 * j → ⊥) → get_or (after n) at nan ≡ get_or controllers at nan
  unfolding stepped_to
  untouched zero at none = refl
  untouched (suc n) at none =
      figures_after_other (own n) (after n) (4 * n) at (none n (omega arith)) ∙ untouched n at (λ j h. none j (omega arith))

  -- A controller's cap is set at its turn, and never after.
  cap_set : (results : List ℕ) (n i : ℕ) → 4 * n ≤ length controllers → i < n → get_or (after n) (4 * i) nan ≡ (controller_after (own i)).cap.0
  unfolding stepped_to
  cap_set results zero i room h = absurd (omega arith)
  cap_set results (suc n) i room h = go (cap_set results n i (omega arith)) (eq-or-lt_of_le (le_of_suc-le-suc h))
    where
      go : ((i < n) → get_or (after n) (4 * i) nan ≡ (controller_after (own i)).cap.0) → (i ≡ n) ⊎ (i < n)
          → get_or (figures_after (own n) (after n) (4 * n)) (4 * i) nan ≡ (controller_after (own i)).cap.0
      go earlier (inl same) =
          rw same
          (cap_after (controller_at controllers (4 * n)) (readings_at working budgets measured (4 * n)) (after n) (4 * n)
          (omega (arith, length_stepped_to controllers working budgets measured results n))
          (stepped_to_ahead controllers working budgets measured results n (4 * n) (omega arith)))
      go earlier (inr less) =
          let before : 4 * i < 4 * n = omega arith in
          figures_after_other (own n) (after n) (4 * n) (4 * i) (ne_of_lt before) ∙ earlier less

  number-set : (results : List ℕ) (n i : ℕ) → n ≤ length results → i < n → get_or (numbers_to controllers working budgets measured results n) i 0 ≡ step_number (own i)
  unfolding numbers_to
  number-set results zero i room h = absurd (omega arith)
  number-set results (suc n) i room h = go (number-set results n i (omega arith)) (eq-or-lt_of_le (le_of_suc-le-suc h))
    where
      go : ((i < n) → get_or (numbers_to controllers working budgets measured results n) i 0 ≡ step_number (own i)) → (i ≡ n) ⊎ (i < n)
          → get_or (set (numbers_to controllers working budgets measured results n) n (step_number (own n))) i 0 ≡ step_number (own i)
      go earlier (inl same) =
          rw same
          (get_or-set_same (numbers_to controllers working budgets measured results n) n (step_number (own n)) 0
          (omega (arith, length_numbers_to controllers working budgets measured results n)))
      go earlier (inr less) =
          get_or-set_other (numbers_to controllers working budgets measured results n) n i (step_number (own n)) 0 (ne_of_lt less) ∙ earlier less

-- A place between two caps is no cap's.
between_caps : (i j k : ℕ) → 0 < k → k < 4 → 4 * i + k ≡ 4 * j → ⊥
between_caps i j k h l e = omega arith

-- ---- The promises

record Lists (p : AcceptedPass) : Type 0 where
  pub fits : Fits p.controllers p.working p.budgets p.measured p.results
  pub controllers_are : p.controllers' ≡ stepped_to p.controllers p.working p.budgets p.measured (controller_count p.controllers)
  pub results_are : p.results' ≡ numbers_to p.controllers p.working p.budgets p.measured p.results (controller_count p.controllers)

lists : (p : AcceptedPass) → Lists p
lists p = go (fit p.controllers p.working p.budgets p.measured p.results) refl
  where
    go : (b : Bool) → fit p.controllers p.working p.budgets p.measured p.results ≡ b → Lists p
    go true fitting =
        let same = accepted_is (sym p.is ∙ passed_accepted p.controllers p.working p.budgets p.measured p.results fitting) in
        record {
          fits = fit_fits p.controllers p.working p.budgets p.measured p.results fitting;
          controllers_are = ap (λ (pass : Pass). pass.controllers) same;
          results_are = ap (λ (pass : Pass). pass.results) same;
        }
    go false unfit =
        let n = ap pass_number (ap answer_of (sym p.is ∙ passed_refused p.controllers p.working p.budgets p.measured p.results unfit)) in
        absurd (omega (arith, n))

pub each_as_single : EachAsSingle
each_as_single p i h = record { controller = controller; number = number }
  where
    cs : List Float
    cs = p.controllers

    n : ℕ
    n = controller_count cs

    l : Lists p
    l = lists p

    room : 4 * n ≤ length cs
    room = omega arith

    c : Controller
    c = controller_at cs (4 * i)

    readings : List Reading
    readings = readings_at p.working p.budgets p.measured (4 * i)

    range : ((controller_after (stepped c readings)).k ≡ c.k) × ((controller_after (stepped c readings)).low ≡ c.low) × ((controller_after (stepped c readings)).high ≡ c.high)
    range = after-range c readings

    figure : (k : ℕ) → 0 < k → k < 4 → get_or (stepped_to cs p.working p.budgets p.measured n) (4 * i + k) nan ≡ get_or cs (4 * i + k) nan
    figure k pos less = untouched cs p.working p.budgets p.measured n (4 * i + k) (λ j below e. between_caps i j k pos less e)

    controller : controller_at p.controllers' (4 * i) ≡ controller_after (single p i)
    controller =
        rw (l.controllers_are, cap_set cs p.working p.budgets p.measured p.results n i room h, figure 1 (omega arith) (omega arith), figure 2 (omega arith) (omega arith), figure 3 (omega arith) (omega arith))
        (same_controller (controller_after (single p i)) range.0 range.1 range.2)
      where
        same_controller : (x : Controller) → x.k ≡ c.k → x.low ≡ c.low → x.high ≡ c.high → controller_of x.cap.0 c.k c.low.0 c.high.0 ≡ x
        same_controller x k low high = rw (← k, ← low, ← high) refl

    number : get_or p.results' i 0 ≡ step_number (single p i)
    number = rw l.results_are (number-set cs p.working p.budgets p.measured p.results n i (omega (arith, l.fits.results_one)) h)

pub stays_inside : StaysInside
stays_inside p =
    let l = lists p in
    let n = controller_count p.controllers in
    record {
      controllers_kept = ap length l.controllers_are ∙ length_stepped_to p.controllers p.working p.budgets p.measured p.results n;
      results_kept = ap length l.results_are ∙ length_numbers_to p.controllers p.working p.budgets p.measured p.results n;
      over = λ at h. ap (λ (x : List Float). get_or x at nan) l.controllers_are ∙ stepped_to_ahead p.controllers p.working p.budgets p.measured p.results n at h;
    }

module _ (controllers : List Float) (working : List ℕ) (budgets measured : List Float) (results : List ℕ) where
  abbrev number : ℕ
  number = pass_number (answer_of (passed controllers working budgets measured results))

  abbrev figure : ℕ
  figure = pass_figure (answer_of (passed controllers working budgets measured results))

  is_eighteen : (b : Bool) → fit controllers working budgets measured results ≡ b → number ≡ 18
      → (Fits controllers working budgets measured results → ⊥) × (figure ≡ controller_count controllers)
  is_eighteen true fitting e = absurd (omega (arith, e, ap pass_number (ap answer_of (passed_accepted controllers working budgets measured results fitting))))
  is_eighteen false unfit e = (unfit_fits controllers working budgets measured results unfit, ap pass_figure (ap answer_of (passed_refused controllers working budgets measured results unfit)))

  eighteen_is : (b : Bool) → fit controllers working budgets measured results ≡ b → (Fits controllers working budgets measured results → ⊥) → number ≡ 18
  eighteen_is true fitting not = absurd (not (fit_fits controllers working budgets measured results fitting))
  eighteen_is false unfit not = ap pass_number (ap answer_of (passed_refused controllers working budgets measured results unfit))

pub refusal_eighteen : RefusalEighteen
refusal_eighteen = record {
  exactly = λ c w b m r. (λ e. (is_eighteen c w b m r (fit c w b m r) refl e).0, eighteen_is c w b m r (fit c w b m r) refl);
  place = λ c w b m r e. (is_eighteen c w b m r (fit c w b m r) refl e).1;
}
