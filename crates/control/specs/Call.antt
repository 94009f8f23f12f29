-- A step called from C: a controller and its cords' readings as plain numbers, and what the call returns and leaves in every entry.
--
-- Lists are read at a place, so that the same words serve a list of many controllers. What stands past a list's end counts as 0 or NaN.
use Rattle.std.specs.Prelude.{cond, List, [], ◌∷◌, ℕ, ◌+◌, eqb, get_or, set, Float, Result, Ok, Err}
use Rattle.std.specs.Float.{nan}
use Rattle.calls.specs.Call.{Call, Left}
use Rattle.control.specs.declared.Reading.{Reading}
use Rattle.control.specs.declared.Reading.TheVariants.{Working, Failed}
use Rattle.control.specs.declared.Controller.{Controller}
use Rattle.control.specs.declared.StepRefusal.{StepRefusal}
use Rattle.control.specs.Step.{ac, dc, Stepped, stepped, step_number, step_place}

-- ---- Plain numbers

-- The controller of four figures.
abbrev pub controller_of : Float → Float → Float → Float → Controller
controller_of cap k low high = record { cap = dc cap; k = k; low = dc low; high = dc high }

-- The reading of a mark and two figures: a mark of 0 is that of a cord that failed or is not fitted, any other that of a working one.
abbrev pub reading_of : ℕ → Float → Float → Reading
reading_of mark budget measured = cond (eqb mark 0) Failed (Working (ac budget) (ac measured))

-- ---- Lists

-- The controller whose figures stand in a list from a place on: cap, k, low, high.
abbrev pub controller_at : List Float → ℕ → Controller
controller_at figures at =
    controller_of (get_or figures at nan) (get_or figures (at + 1) nan) (get_or figures (at + 2) nan) (get_or figures (at + 3) nan)

-- The reading of the cord at a place of three lists.
abbrev pub reading_at : List ℕ → List Float → List Float → ℕ → Reading
reading_at working budgets measured at = reading_of (get_or working at 0) (get_or budgets at nan) (get_or measured at nan)

-- The readings of the four cords from a place on.
abbrev pub readings_at : List ℕ → List Float → List Float → ℕ → List Reading
readings_at working budgets measured at =
    reading_at working budgets measured at ∷ reading_at working budgets measured (at + 1)
    ∷ reading_at working budgets measured (at + 2) ∷ reading_at working budgets measured (at + 3) ∷ []

-- The step of the controller from a place on, by the cords from that place on.
abbrev pub step_at : List Float → List ℕ → List Float → List Float → ℕ → Stepped
step_at figures working budgets measured at = stepped (controller_at figures at) (readings_at working budgets measured at)

-- The list after the step of the controller from a place on: an accepted one stores the new cap; a refused one stores nothing.
abbrev pub figures_after : Stepped → List Float → ℕ → List Float
figures_after (Ok next) figures at = set figures at next.cap.0
figures_after (Err turned) figures at = figures

-- The answer to a step: the figure 0 where it is accepted, or the refusal.
abbrev pub answer_of : Stepped → Result ℕ StepRefusal
answer_of (Ok next) = Ok 0
answer_of (Err turned) = Err turned.refusal

-- ---- The call

-- A step, called from C, that comes to a step.
abbrev pub SteppedCall : Stepped → (controller : List Float) (answer : List ℕ) (r : ℕ) (controller' : List Float) (answer' : List ℕ) → Type 0
SteppedCall step controller answer r controller' answer' =
    Call 2 (step_number step ∷ step_place step ∷ []) answer (Left (figures_after step controller 0) controller controller') r answer'

-- A step, called from C. The marks, the budgets and the measured watts are not written.
abbrev pub StepCall : (controller : List Float) (working : List ℕ) (budgets measured : List Float) (answer : List ℕ) (r : ℕ)
    (controller' : List Float) (answer' : List ℕ) → Type 0
StepCall controller working budgets measured answer r controller' answer' =
    SteppedCall (step_at controller working budgets measured 0) controller answer r controller' answer'
