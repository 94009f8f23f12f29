-- What holds of a step, apart from any code.
-- proofs/Promises.antt proves each: `CapInRange` as `cap_in_range`, and so on.
--
-- A test that holds is written `test ≡ true`. `eq` is the floats' `==`, by which −0 equals +0; `finite` holds of all but NaN and the infinities.
use Rattle.std.specs.Prelude.{◌≡◌, true, false, List, [], ◌∷◌, ◌↔◌, ℕ, suc, ◌<◌, length, get_or, Float, Ok}
use Rattle.std.specs.Float.{nan, binary64}
use Rattle.std.specs.Float.Ieee.{fits, lt, le, eq}
use Rattle.std.specs.Float.Ieee.Scale.{finite}
use Rattle.control.specs.declared.AcWatts.{AcWatts}
use Rattle.control.specs.declared.Reading.{Reading}
use Rattle.control.specs.declared.Reading.TheVariants.{Working, Failed}
use Rattle.control.specs.declared.Controller.{Controller}
use Rattle.control.specs.declared.StepRefusal.{StepRefusal}
use Rattle.control.specs.Step.{float0, float1, most_watts, ac, ordered, good_controller, errors, least, refused, stepped, step_number, step_place}
use Rattle.control.specs.Call.{reading_of}

-- ---- Accepted steps

-- A step by four readings that is accepted.
pub record AcceptedStep : Type 0 where
  pub controller : Controller
  pub readings : List Reading
  pub next : Controller
  pub four : length readings ≡ 4
  pub is : stepped controller readings ≡ Ok next

-- The new cap lies from low to high.
abbrev pub CapInRange : Type 0
CapInRange = (s : AcceptedStep) → ordered s.controller.low.0 s.next.cap.0 s.controller.high.0 ≡ true

-- k, low and high stay.
abbrev pub RangeStays : Type 0
RangeStays = (s : AcceptedStep) → (s.next.k ≡ s.controller.k) × (s.next.low ≡ s.controller.low) × (s.next.high ≡ s.controller.high)

-- The successor is good too: no step that follows is refused for its controller.
abbrev pub SuccessorGood : Type 0
SuccessorGood = (s : AcceptedStep) → good_controller s.next ≡ true

-- An error of zero leaves the value of a cap that is a 64-bit float, as every figure in the code is; but for a cap of zero, whose sign may
-- change, it leaves the whole controller.
pub record Kept (s : AcceptedStep) : Type 0 where
  pub value : eq s.next.cap.0 s.controller.cap.0 ≡ true
  pub whole : eq s.controller.cap.0 float0 ≡ false → s.next ≡ s.controller

abbrev pub ZeroErrorKeepsCap : Type 0
ZeroErrorKeepsCap =
    (s : AcceptedStep) (error : AcWatts) (rest : List AcWatts) → fits binary64 s.controller.cap.0 ≡ true
    → errors s.readings ≡ error ∷ rest → eq (least error rest).0 float0 ≡ true → Kept s

-- ---- The error

-- An error stands at a place of some: it is the least of them, and the first of its equals.
pub record FirstLeast (errors : List AcWatts) (error : AcWatts) : Type 0 where
  pub place : ℕ
  pub within : place < length errors
  pub is : get_or errors place (ac nan) ≡ error
  pub least : (j : ℕ) → j < length errors → le error.0 (get_or errors j (ac nan)).0 ≡ true
  pub first : (j : ℕ) → j < place → lt error.0 (get_or errors j (ac nan)).0 ≡ true

-- The error of an accepted step is that of the working cords.
abbrev pub LeastError : Type 0
LeastError =
    (s : AcceptedStep) (error : AcWatts) (rest : List AcWatts)
    → errors s.readings ≡ error ∷ rest → FirstLeast (errors s.readings) (least error rest)

-- ---- Working cords

-- How many cords are marked as working.
unfoldable pub working : List Reading → ℕ
working [] = 0
working (Working budget measured ∷ rest) = suc (working rest)
working (Failed ∷ rest) = working rest

-- The mark alone decides, whatever the figures: each cord marked as working has its error, also at 0 W, and in the C call a mark of 0,
-- and no other, is that of a failed cord.
pub record MarkDecides : Type 0 where
  pub counts : (readings : List Reading) → length (errors readings) ≡ working readings
  pub called : (mark : ℕ) (budget measured : Float) → (reading_of mark budget measured ≡ Failed) ↔ (mark ≡ 0)

-- With no working cord the cap stays, as the whole controller does.
abbrev pub NoneWorkingKeepsCap : Type 0
NoneWorkingKeepsCap = (s : AcceptedStep) → working s.readings ≡ 0 → s.next ≡ s.controller

-- ---- Refusals

-- A refused step leaves the controller unchanged.
abbrev pub RefusedUnchanged : Type 0
RefusedUnchanged = (c : Controller) (readings : List Reading) (why : StepRefusal) (after : Controller) → stepped c readings ≡ refused why after
    → after ≡ c

-- What refusal 16 asks of a controller, in document 02's words.
pub record Sound (c : Controller) : Type 0 where
  pub k_above : lt float0 c.k ≡ true
  pub k_most : le c.k float1 ≡ true
  pub low-least : le float0 c.low.0 ≡ true
  pub low_cap : le c.low.0 c.cap.0 ≡ true
  pub cap_high : le c.cap.0 c.high.0 ≡ true
  pub high_most : le c.high.0 most_watts ≡ true
  pub k_finite : finite c.k ≡ true
  pub low_finite : finite c.low.0 ≡ true
  pub cap_finite : finite c.cap.0 ≡ true
  pub high_finite : finite c.high.0 ≡ true

-- What refusal 17 asks of a figure, and so of a reading.
pub record SoundFigure (watts : AcWatts) : Type 0 where
  pub least : le float0 watts.0 ≡ true
  pub most : le watts.0 most_watts ≡ true
  pub is_finite : finite watts.0 ≡ true

pub record SoundReading (reading : Reading) : Type 0 where
  pub figures : (budget measured : AcWatts) → reading ≡ Working budget measured → SoundFigure budget × SoundFigure measured

-- The cord at place i is the first whose reading is not sound.
pub record FirstUnsound (readings : List Reading) (i : ℕ) : Type 0 where
  pub within : i < length readings
  pub unsound : SoundReading (get_or readings i Failed) → ⊥
  pub first : (j : ℕ) → j < i → SoundReading (get_or readings j Failed)

-- 16 comes first, at place 0, exactly if the controller is not sound; then 17, exactly at the first cord whose reading is not; a step is
-- accepted exactly if all are.
pub record Refusals : Type 0 where
  pub sixteen : (c : Controller) (readings : List Reading) → (step_number (stepped c readings) ≡ 16) ↔ (Sound c → ⊥)
  pub sixteen_place : (c : Controller) (readings : List Reading) → step_number (stepped c readings) ≡ 16 → step_place (stepped c readings) ≡ 0
  pub seventeen : (c : Controller) (readings : List Reading) (i : ℕ)
      → ((step_number (stepped c readings) ≡ 17) × (step_place (stepped c readings) ≡ i)) ↔ (Sound c × FirstUnsound readings i)
  pub accepted : (c : Controller) (readings : List Reading)
      → (step_number (stepped c readings) ≡ 0) ↔ (Sound c × ((i : ℕ) → i < length readings → SoundReading (get_or readings i Failed)))
