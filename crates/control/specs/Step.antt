-- One step of the DC cap loop, over IEEE 754's 64-bit floats: document 02, A.6, after section IV.B of the report.
--
-- `lt`, `le`, `sub`, `mul` and `add` are the float operators `<`, `<=`, `-`, `*` and `+`. An operation's exact result is rounded once, to
-- the nearest float. Every comparison with a NaN is false.
use Rattle.std.specs.Prelude.{Bool, true, false, cond, ◌&&◌, List, [], ◌∷◌, ℕ, suc, pos, length, Float, Result, Ok, Err}
use Rattle.std.specs.Float.{fin, binary64}
use Rattle.std.specs.Float.Ieee.{add, sub, mul, lt, le, of_int}
use Rattle.control.specs.declared.AcWatts.{AcWatts}
use Rattle.control.specs.declared.DcWatts.{DcWatts}
use Rattle.control.specs.declared.Reading.{Reading}
use Rattle.control.specs.declared.Reading.TheVariants.{Working, Failed}
use Rattle.control.specs.declared.Controller.{Controller}
use Rattle.control.specs.declared.StepRefusal.{StepRefusal}
use Rattle.control.specs.declared.StepRefusal.TheVariants.{BadController, BadReading}
use Rattle.control.specs.declared.RefusedStep.{RefusedStep}

-- ---- Figures

-- The floats 0, 1 and 16,777,215: m * 2 ^ 0, not negative.
abbrev pub float0 : Float
float0 = fin false 0 (pos 0)

abbrev pub float1 : Float
float1 = fin false 1 (pos 0)

abbrev pub most_watts : Float
most_watts = fin false 16777215 (pos 0)

abbrev pub ac : Float → AcWatts
ac x = record { 0 = x }

abbrev pub dc : Float → DcWatts
dc x = record { 0 = x }

-- ---- Refusals

-- low ≤ x ≤ high. Of finite ends, x is then finite too; no NaN is in order.
abbrev pub ordered : Float → Float → Float → Bool
ordered low x high = le low x && le x high

-- k lies above 0 and up to 1.
abbrev pub is_efficiency : Float → Bool
is_efficiency k = lt float0 k && le k float1

-- A controller is good if k is an efficiency, and 0 ≤ low ≤ cap ≤ high ≤ 16,777,215. All four are then finite.
unfoldable pub good_controller : Controller → Bool
good_controller c = is_efficiency c.k && (ordered float0 c.low.0 c.cap.0 && ordered c.cap.0 c.high.0 most_watts)

-- A budget or a measurement lies from 0 to 16,777,215, and so is finite.
abbrev pub in_range : AcWatts → Bool
in_range watts = ordered float0 watts.0 most_watts

-- A reading is good if the figures of a working cord are. A failed cord has none.
unfoldable pub good_reading : Reading → Bool
good_reading (Working budget measured) = in_range budget && in_range measured
good_reading Failed = true

-- ---- The error

-- A budget less what is measured.
abbrev pub difference : AcWatts → AcWatts → AcWatts
difference budget measured = ac (sub binary64 budget.0 measured.0)

-- The errors of the working cords, in order. The mark alone decides which these are.
unfoldable pub errors : List Reading → List AcWatts
errors [] = []
errors (Working budget measured ∷ rest) = difference budget measured ∷ errors rest
errors (Failed ∷ rest) = errors rest

-- The lesser of two, and the first of equals.
abbrev pub lesser_figure : Float → Float → Float
lesser_figure first second = cond (lt second first) second first

abbrev pub lesser : AcWatts → AcWatts → AcWatts
lesser first second = ac (lesser_figure first.0 second.0)

-- The least of an error and those after it, and the first of equals.
unfoldable pub least : AcWatts → List AcWatts → AcWatts
least error [] = error
least error (next ∷ rest) = least (lesser error next) rest

-- ---- The new cap

-- The DC change for an AC error of so many working cords: (error × k) × count.
abbrev pub dc_change : AcWatts → Float → ℕ → DcWatts
dc_change error k working = dc (mul binary64 (mul binary64 error.0 k) (of_int binary64 (pos working)))

abbrev pub sum : DcWatts → DcWatts → DcWatts
sum cap change = dc (add binary64 cap.0 change.0)

-- A cap cut to a range.
abbrev pub cut_figure : Float → Float → Float → Float
cut_figure x low high = cond (lt x low) low (cond (lt high x) high x)

abbrev pub cut : DcWatts → DcWatts → DcWatts → DcWatts
cut cap low high = dc (cut_figure cap.0 low.0 high.0)

-- The controller with another cap; k, low and high stay.
abbrev pub with_cap : Controller → DcWatts → Controller
with_cap c cap = record { cap = cap; k = c.k; low = c.low; high = c.high }

-- The controller moved by the least error of so many working cords: the change is added to the cap, and the sum cut to the range.
abbrev pub moved : Controller → AcWatts → ℕ → Controller
moved c error working = with_cap c (cut (sum c.cap (dc_change error c.k working)) c.low c.high)

-- The successor, by the errors of the working cords. With none, the cap stays.
unfoldable pub successor : Controller → List AcWatts → Controller
unfolding least
successor c [] = c
successor c (error ∷ rest) = moved c (least error rest) (suc (length rest))

-- ---- The step

-- What a step gives: the controller's successor; or the refusal, beside the controller as it was.
abbrev pub Stepped : Type 0
Stepped = Result Controller (RefusedStep StepRefusal)

abbrev pub refused : StepRefusal → Controller → Stepped
refused why c = Err (record { refusal = why; controller = c })

-- Readings judged in order, the first being that of cord i: 17 at the first that is not good, or what follows if all are.
unfoldable pub judged : Controller → ℕ → List Reading → Stepped → Stepped
unfolding good_reading
judged c i [] next = next
judged c i (reading ∷ rest) next = cond (good_reading reading) (judged c (suc i) rest next) (refused (BadReading i) c)

-- A step: 16 at place 0 if the controller is not good; then 17 at the first cord whose reading is not; else the successor.
unfoldable pub stepped : Controller → List Reading → Stepped
unfolding good_controller judged errors successor
stepped c readings = cond (good_controller c) (judged c 0 readings (Ok (successor c (errors readings)))) (refused BadController c)

-- ---- Numbers and places

-- A refusal's number in document 02, and its place: the cord of a bad reading.
abbrev pub step_refusal_number : StepRefusal → ℕ
step_refusal_number BadController = 16
step_refusal_number (BadReading cord) = 17

abbrev pub step_refusal_place : StepRefusal → ℕ
step_refusal_place BadController = 0
step_refusal_place (BadReading cord) = cord

-- A step's number, 0 if accepted; its place, 0 if accepted; and the controller after it.
abbrev pub step_number : Stepped → ℕ
step_number (Ok next) = 0
step_number (Err turned) = step_refusal_number turned.refusal

abbrev pub step_place : Stepped → ℕ
step_place (Ok next) = 0
step_place (Err turned) = step_refusal_place turned.refusal

abbrev pub controller_after : Stepped → Controller
controller_after (Ok next) = next
controller_after (Err turned) = turned.controller
