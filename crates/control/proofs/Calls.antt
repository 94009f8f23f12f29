-- What the C call of a step returns and leaves, from what the functions that it calls ensure.
use mathlib.Core.Path.{◌≡◌, refl}
use mathlib.Core.List.{List, [], ◌∷◌}
use Prim.Native.Nat.{ℕ, ◌≤◌}
use native.Mathlib.Omega.{arith}
use Rattle.std.proofs.Common.{Ok, Err}
use lib.ListN.{length}
use lib.Ieee.{Float}
use Rattle.calls.specs.Call.{answered, told_numbers}
use Rattle.calls.proofs.Calls as calls
use Rattle.control.specs.declared.Reading.{Reading}
use Rattle.control.specs.declared.Controller.{Controller}
use Rattle.control.specs.Step.{Stepped, stepped, step_refusal_number, step_refusal_place, step_number, step_place}
use Rattle.control.specs.Call.{figures_after, answer_of, SteppedCall}

-- The numbers that are told of a step are its number and its place.
numbers_told : (step : Stepped) → told_numbers (λ figure. figure ∷ []) step_refusal_number step_refusal_place (answer_of step) ≡ step_number step ∷ step_place step ∷ []
numbers_told (Ok next) = refl
numbers_told (Err turned) = refl

-- The answer is that of the step that was made, which is that of the controller and the readings made of the lists.
pub call_done : {c before : Controller} {readings made : List Reading} {step : Stepped} (controller : List Float) (answer : List ℕ) {controller' : List Float} {answer' : List ℕ}
    → 16 ≤ length answer → before ≡ c → made ≡ readings → step ≡ stepped before made → controller' ≡ figures_after step controller 0
    → answer' ≡ answered 2 (told_numbers (λ figure. figure ∷ []) step_refusal_number step_refusal_place (answer_of step)) answer
    → SteppedCall (stepped c readings) controller answer 1 controller' answer'
call_done {step = step} controller answer h b m s kept a = rw (← b, ← m, ← s) (calls.call_done _ answer _ (omega arith) kept (rw (numbers_told step) at a))
