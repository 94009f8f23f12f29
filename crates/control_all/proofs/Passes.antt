-- What a pass, and its C call, give and leave, from what the functions that they call ensure.
use mathlib.Core.Path.{◌≡◌, refl, sym, ap, ◌∙◌}
use mathlib.Core.Bool.{Bool, true, false, not}
use mathlib.Core.List.{List, [], ◌∷◌}
use Prim.Native.Nat.{ℕ, ◌≤◌, ◌<◌}
use native.Mathlib.Omega.{arith}
use Rattle.std.proofs.Common.{Result, Ok, Err}
use lib.ListN.{length}
use lib.Ieee.{Float}
use Rattle.outcomes.specs.Outcome.{accepted, refused, after}
use Rattle.outcomes.proofs.Outcomes.{unless_stop, unless_pass, unless_none}
use Rattle.calls.specs.Call.{answered, told_numbers}
use Rattle.calls.proofs.Calls as calls
use Rattle.figures.proofs.Stores.{sets_all}
use Rattle.control_all.specs.declared.PassRefusal.{PassRefusal}
use Rattle.control_all.specs.Pass.{controller_count, stepped_to, numbers_to, zeros, Pass, PassOutcome, unfit, passed, answer_of, pass_refusal_number, pass_refusal_place, pass_number, pass_figure}
use Rattle.control_all.specs.Call.{PassedCall}
use Rattle.control_all.specs.Fitting.{Fitting}
use Rattle.control_all.proofs.Turns.{length_stepped_to, length_numbers_to}
use Rattle.control_all.proofs.Lengths.{fit, fit_fits, fits_fitting}

module _ (controllers : List Float) (working : List ℕ) (budgets measured : List Float) (results : List ℕ) where
  abbrev outcome : PassOutcome
  outcome = passed controllers working budgets measured results

  -- The lists as they are once every controller is stepped.
  abbrev whole : Pass
  whole = record {
    controllers = stepped_to controllers working budgets measured (controller_count controllers);
    results = numbers_to controllers working budgets measured results (controller_count controllers);
  }

  -- Lists that fit are stepped.
  pub passed_accepted : fit controllers working budgets measured results ≡ true → passed controllers working budgets measured results ≡ accepted whole
  unfolding passed
  passed_accepted fits = unless_pass (unfit controllers working budgets measured results) [] whole (ap not fits) ∙ unless_none whole

  -- Lists that do not are refused.
  pub passed_refused : fit controllers working budgets measured results ≡ false
      → passed controllers working budgets measured results ≡ refused (record { controllers = controller_count controllers })
  unfolding passed
  passed_refused unfits = unless_stop (unfit controllers working budgets measured results) [] whole (ap not unfits)

  -- What is asked of lists that are stepped, where the test is b.
  pub test_fitting : {b : Bool} → b ≡ fit controllers working budgets measured results → b ≡ true → Fitting controllers working budgets measured results
  test_fitting e h = fits_fitting controllers working budgets measured results (fit_fits controllers working budgets measured results (sym e ∙ h))

  pub pass_done : {b : Bool} {controllers' : List Float} {results' : List ℕ} {count : ℕ} → b ≡ fit controllers working budgets measured results → b ≡ true
      → controllers' ≡ stepped_to controllers working budgets measured (length results)
      → results' ≡ numbers_to controllers working budgets measured results (length results)
      → count ≡ zeros results'
      → (Ok count ≡ answer_of outcome) × ((controllers' ≡ after (λ pass. pass.controllers) outcome controllers) × (results' ≡ after (λ pass. pass.results) outcome results))
  pass_done e h c r n =
      let fits = sym e ∙ h in
      let one = (fit_fits controllers working budgets measured results fits).results_one in
      let controllers_whole = sets_all controllers whole.controllers (sym (length_stepped_to controllers working budgets measured results (controller_count controllers))) in
      let results_whole = sets_all results whole.results (sym (length_numbers_to controllers working budgets measured results (controller_count controllers))) in
      rw (passed_accepted fits) (ap (λ (k : ℕ). Ok k) (n ∙ ap zeros (rw one at r)), ((rw one at c) ∙ sym controllers_whole, (rw one at r) ∙ sym results_whole))

  pub pass_refused : {b : Bool} → b ≡ fit controllers working budgets measured results → b ≡ false
      → (Err (record { controllers = controller_count controllers }) ≡ answer_of outcome) × ((controllers ≡ after (λ pass. pass.controllers) outcome controllers) × (results ≡ after (λ pass. pass.results) outcome results))
  pass_refused e h = rw (passed_refused (sym e ∙ h)) (refl, (refl, refl))

-- ---- The call

-- Where the answer's buffer is too short, nothing is changed.
pub call_short : (outcome : PassOutcome) (controllers : List Float) (results answer : List ℕ) → length answer < 16
    → PassedCall outcome controllers results answer 0 controllers results answer
call_short outcome controllers results answer h = calls.call_short _ answer _ (omega arith) (record { controllers_after = refl; results_after = refl })

-- The numbers that are told of an answer are its number and its figure.
numbers_told : (r : Result ℕ PassRefusal) → told_numbers (λ count. count ∷ []) pass_refusal_number pass_refusal_place r ≡ pass_number r ∷ pass_figure r ∷ []
numbers_told (Ok count) = refl
numbers_told (Err refusal) = refl

-- Where it is long enough, it has the answer of the pass.
pub call_done : (outcome : PassOutcome) (controllers : List Float) (results answer : List ℕ) {told : Result ℕ PassRefusal} {controllers' : List Float} {results' answer' : List ℕ}
    → 16 ≤ length answer → told ≡ answer_of outcome → controllers' ≡ after (λ pass. pass.controllers) outcome controllers → results' ≡ after (λ pass. pass.results) outcome results
    → answer' ≡ answered 2 (told_numbers (λ count. count ∷ []) pass_refusal_number pass_refusal_place told) answer
    → PassedCall outcome controllers results answer 1 controllers' results' answer'
call_done outcome controllers results answer {told} h t c r a =
    calls.call_done _ answer _ (omega arith) (record { controllers_after = c; results_after = r }) (rw (numbers_told told, t) at a)
