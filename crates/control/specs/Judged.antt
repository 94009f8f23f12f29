-- The parts of which the code makes a step, cord by cord. No operation's contract rests on these: what a step is stands in Step.antt, and
-- proofs/Cords.antt shows that the parts come to it.
use Rattle.std.specs.Prelude.{false, cond, List, [], ◌∷◌, ℕ, suc, ◌+◌, min, eqb, Float, Result, Ok, Err}
use Rattle.std.specs.Float.{inf}
use Rattle.std.specs.Float.Ieee.{lt}
use Rattle.control.specs.declared.AcWatts.{AcWatts}
use Rattle.control.specs.declared.Reading.{Reading}
use Rattle.control.specs.declared.Reading.TheVariants.{Working, Failed}
use Rattle.control.specs.declared.Controller.{Controller}
use Rattle.control.specs.declared.Tally.{Tally}
use Rattle.control.specs.declared.RefusedStep.{RefusedStep}
use Rattle.control.specs.declared.StepRefusal.{StepRefusal}
use Rattle.control.specs.declared.StepRefusal.TheVariants.{BadController, BadReading}
use Rattle.control.specs.Step.{ac, good_controller, good_reading, difference, lesser, moved}

-- Of two figures the one that is not the lesser.
abbrev pub greater_figure : Float → Float → Float
greater_figure first second = cond (lt second first) first second

-- ---- Tallies

abbrev pub tally_of : AcWatts → ℕ → Tally
tally_of least working = record { least = least; working = working }

-- The tally of no cord: any error is less than +∞, or equal to it.
abbrev pub no_tally : Tally
no_tally = tally_of (ac (inf false)) 0

-- A tally with a cord more. It counts no further than to four, the cords of a server.
abbrev pub tallied : Tally → Reading → Tally
tallied tally (Working budget measured) = tally_of (lesser tally.least (difference budget measured)) (min (tally.working + 1) 4)
tallied tally Failed = tally

-- The successor by the tally of all cords. With none working, the cap stays.
abbrev pub moved_by : Controller → Tally → Controller
moved_by c tally = cond (eqb tally.working 0) c (moved c tally.least tally.working)

-- ---- A controller and its cords, judged in order

-- All that are judged so far are good, and the cords come to a tally; or the refusal of the first that is not.
abbrev pub JudgedCords : Type 0
JudgedCords = Result Tally StepRefusal

-- The controller, before its cords.
abbrev pub judged_first : Controller → JudgedCords
judged_first c = cond (good_controller c) (Ok no_tally) (Err BadController)

-- With the cord at a place; a refusal stands.
abbrev pub judged_with : JudgedCords → ℕ → Reading → JudgedCords
judged_with (Ok tally) place reading = cond (good_reading reading) (Ok (tallied tally reading)) (Err (BadReading place))
judged_with (Err why) place reading = Err why

-- With cords in order, the first of which has a place.
abbrev pub judged_all : JudgedCords → ℕ → List Reading → JudgedCords
judged_all judged place [] = judged
judged_all judged place (reading ∷ rest) = judged_all (judged_with judged place reading) (suc place) rest

-- The step, once all are judged, by whatever refusals.
abbrev pub stepped_by : {R : Type 0} → Controller → Result Tally R → Result Controller (RefusedStep R)
stepped_by c (Ok tally) = Ok (moved_by c tally)
stepped_by c (Err why) = Err (record { refusal = why; controller = c })
