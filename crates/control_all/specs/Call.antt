-- A pass called from C: what the call returns and leaves in every entry of every list and buffer.
use Rattle.std.specs.Prelude.{Bool, List, [], ◌∷◌, ℕ, Float}
use Rattle.outcomes.specs.Outcome.{after}
use Rattle.calls.specs.Call.{Call, Left}
use Rattle.control_all.specs.Pass.{PassOutcome, passed, answer_of, pass_number, pass_figure}

-- The lists that the call of a pass leaves.
pub record ListsLeft (outcome : PassOutcome) (controllers : List Float) (results : List ℕ) (controllers' : List Float) (results' : List ℕ)
    (stored : Bool) : Type 0 where
  pub controllers_after : Left (after (λ pass. pass.controllers) outcome controllers) controllers controllers' stored
  pub results_after : Left (after (λ pass. pass.results) outcome results) results results' stored

-- The call of a pass that comes to an outcome.
abbrev pub PassedCall : PassOutcome → (controllers : List Float) (results answer : List ℕ) (r : ℕ)
    (controllers' : List Float) (results' answer' : List ℕ) → Type 0
PassedCall outcome controllers results answer r controllers' results' answer' =
    Call 2 (pass_number (answer_of outcome) ∷ pass_figure (answer_of outcome) ∷ []) answer
    (ListsLeft outcome controllers results controllers' results') r answer'

-- A pass, called from C. The marks, the budgets and the measured watts are not written.
abbrev pub PassCall : (controllers : List Float) (working : List ℕ) (budgets measured : List Float) (results answer : List ℕ) (r : ℕ)
    (controllers' : List Float) (results' answer' : List ℕ) → Type 0
PassCall controllers working budgets measured results answer r controllers' results' answer' =
    PassedCall (passed controllers working budgets measured results) controllers results answer r controllers' results' answer'
