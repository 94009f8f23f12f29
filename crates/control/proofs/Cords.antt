-- A step made of its parts, cord by cord, is the step of the definition.
use mathlib.Core.Path.{◌≡◌, refl, sym, ap, ◌∙◌}
use mathlib.Core.Bool.{Bool, true, false}
use mathlib.Core.List.{List, [], ◌∷◌}
use Prim.Native.Nat.{ℕ, suc, ◌+◌, ◌<◌, ◌≤◌}
use native.Mathlib.Nat.{add-zero, ne_of_gt}
use native.Mathlib.Omega.{arith}
use borrow.Author.Tests.{ne_eqb}
use Rattle.std.proofs.Common.{Ok, Err}
use lib.Dec.{T}
use lib.ListN.{length, get_or}
use lib.Ieee.{inf, binary64}
use Rattle.control.specs.declared.AcWatts.{AcWatts}
use Rattle.control.specs.declared.Reading.{Reading}
use Rattle.control.specs.declared.Reading.TheVariants.{Working, Failed}
use Rattle.control.specs.declared.Controller.{Controller}
use Rattle.control.specs.declared.StepRefusal.{StepRefusal}
use Rattle.control.specs.declared.StepRefusal.TheVariants.{BadController, BadReading}
use Rattle.control.specs.declared.Tally.{Tally}
use Rattle.control.specs.Step.{ac, good_controller, good_reading, difference, errors, lesser, least, moved, successor, Stepped, refused, judged, stepped}
use Rattle.control.specs.Judged.{tally_of, no_tally, tallied, moved_by, JudgedCords, judged_first, judged_with, judged_all, stepped_by}
use Rattle.control.specs.Promises.{SoundReading}
use Rattle.control.proofs.Tests.{cond_true, cond_false}
use Rattle.control.proofs.FloatOrder.{real, from_true}
use Rattle.control.proofs.FloatRounding.{sub_real}
use Rattle.control.proofs.FloatChoice.{lesser_infinite}
use Rattle.control.proofs.Sound.{good_sound_reading}

abbrev accepted : Controller → Stepped
accepted next = Ok next

-- ---- Errors

-- None is a NaN.
pub data Reals : List AcWatts → Type 0 where
  no_reals : Reals []
  reals : {error : AcWatts} {rest : List AcWatts} → T (real error.0) → Reals rest → Reals (error ∷ rest)

pub error_real : (budget measured : AcWatts) → SoundReading (Working budget measured) → T (real (difference budget measured).0)
error_real budget measured sound =
    let both = sound.figures budget measured refl in
    sub_real binary64 budget.0 measured.0 (from_true both.0.is_finite) (from_true both.1.is_finite)

-- ---- A tally followed by errors

-- The successor by a tally and the errors of the cords after it.
unfoldable successor_from : Controller → Tally → List AcWatts → Controller
unfolding least
successor_from c tally rest = moved_by c (tally_of (least tally.least rest) (tally.working + length rest))

-- A cord may be tallied, or stand first of those after the tally.
successor_from_tallied : (c : Controller) (tally : Tally) (reading : Reading) (rest : List Reading) → tally.working < 4
    → successor_from c (tallied tally reading) (errors rest) ≡ successor_from c tally (errors (reading ∷ rest))
unfolding successor_from errors least
successor_from_tallied c tally Failed rest h = refl
successor_from_tallied c tally (Working budget measured) rest h =
    let more = tallied tally (Working budget measured) in
    let count : more.working + length (errors rest) ≡ tally.working + suc (length (errors rest)) = omega arith in
    ap (λ (n : ℕ). moved_by c (tally_of (least more.least (errors rest)) n)) count

-- It adds at most one to the count.
tallied-within : (tally : Tally) (reading : Reading) (rest : List Reading) → tally.working + length (reading ∷ rest) ≤ 4 → (tallied tally reading).working + length rest ≤ 4
tallied-within tally Failed rest h = omega arith
tallied-within tally (Working budget measured) rest h = omega arith

-- With no cord after it, the tally says all; with none in it, the cords after it do.
successor_from_end : (c : Controller) (tally : Tally) → moved_by c tally ≡ successor_from c tally []
unfolding successor_from least
successor_from_end c tally = ap (λ (n : ℕ). moved_by c (tally_of tally.least n)) (sym (add-zero tally.working))

successor_from_none : (c : Controller) (rest : List AcWatts) → Reals rest → successor_from c no_tally rest ≡ successor c rest
unfolding successor_from successor least
successor_from_none c [] no_reals = refl
successor_from_none c (error ∷ rest) (reals r rs) =
    let count : 0 + suc (length rest) ≡ suc (length rest) = omega arith in
    let some : 0 < 0 + suc (length rest) = omega arith in
    sym (cond_false c (moved c (least (lesser (ac (inf false)) error) rest) (0 + suc (length rest))) (ne_eqb (0 + suc (length rest)) 0 (ne_of_gt some)))
    ∙ ap (λ (e : AcWatts). moved c (least e rest) (0 + suc (length rest))) (ap ac (lesser_infinite error.0 r))
    ∙ ap (moved c (least error rest)) count

-- ---- Readings judged

pub judged_good : (c : Controller) (i : ℕ) (reading : Reading) (rest : List Reading) (next : Stepped)
    → good_reading reading ≡ true → judged c (suc i) rest next ≡ judged c i (reading ∷ rest) next
unfolding judged
judged_good c i reading rest next good = cond_true _ _ good

pub judged_bad : (c : Controller) (i : ℕ) (reading : Reading) (rest : List Reading) (next : Stepped)
    → good_reading reading ≡ false → refused (BadReading i) c ≡ judged c i (reading ∷ rest) next
unfolding judged
judged_bad c i reading rest next bad = cond_false _ _ bad

-- What follows good readings need only be known where their errors are no NaN.
judged-same : (c : Controller) (i : ℕ) (readings : List Reading) (x y : Stepped) → (Reals (errors readings) → x ≡ y) → judged c i readings x ≡ judged c i readings y
unfolding judged errors
judged-same c i [] x y f = f no_reals
judged-same c i (Failed ∷ rest) x y f =
    sym (judged_good c i Failed rest x refl) ∙ judged-same c (suc i) rest x y f ∙ judged_good c i Failed rest y refl
judged-same c i (Working budget measured ∷ rest) x y f = go (good_reading reading) refl (judged-same c (suc i) rest x y)
  where
    reading : Reading
    reading = Working budget measured

    go : (b : Bool) → good_reading reading ≡ b → ((Reals (errors rest) → x ≡ y) → judged c (suc i) rest x ≡ judged c (suc i) rest y)
        → judged c i (reading ∷ rest) x ≡ judged c i (reading ∷ rest) y
    go true good later =
        sym (judged_good c i reading rest x good)
        ∙ later (λ rs. f (reals (error_real budget measured (good_sound_reading reading good)) rs))
        ∙ judged_good c i reading rest y good
    go false bad later = sym (judged_bad c i reading rest x bad) ∙ judged_bad c i reading rest y bad

-- ---- Cords judged one by one

all_bad : (why : StepRefusal) (i : ℕ) (readings : List Reading) → judged_all (Err why) i readings ≡ Err why
all_bad why i [] = refl
all_bad why i (reading ∷ rest) = all_bad why (suc i) rest

all_good : (c : Controller) (tally : Tally) (i : ℕ) (readings : List Reading) → tally.working + length readings ≤ 4
    → stepped_by c (judged_all (Ok tally) i readings) ≡ judged c i readings (Ok (successor_from c tally (errors readings)))
unfolding judged errors
all_good c tally i [] h = ap accepted (successor_from_end c tally)
all_good c tally i (reading ∷ rest) h = go (good_reading reading) refl (all_good c (tallied tally reading) (suc i) rest (tallied-within tally reading rest h))
  where
    after : Stepped
    after = accepted (successor_from c tally (errors (reading ∷ rest)))

    more : Tally
    more = tallied tally reading

    go : (b : Bool) → good_reading reading ≡ b
        → stepped_by c (judged_all (Ok more) (suc i) rest) ≡ judged c (suc i) rest (Ok (successor_from c more (errors rest)))
        → stepped_by c (judged_all (judged_with (Ok tally) i reading) (suc i) rest) ≡ judged c i (reading ∷ rest) after
    go true good later =
        ap (λ (j : JudgedCords). stepped_by c (judged_all j (suc i) rest)) (sym (cond_true _ _ good))
        ∙ later
        ∙ ap (λ (next : Controller). judged c (suc i) rest (Ok next)) (successor_from_tallied c tally reading rest (omega (arith, h)))
        ∙ judged_good c i reading rest after good
    go false bad later =
        ap (λ (j : JudgedCords). stepped_by c (judged_all j (suc i) rest)) (sym (cond_false _ _ bad))
        ∙ ap (stepped_by c) (all_bad (BadReading i) (suc i) rest)
        ∙ judged_bad c i reading rest after bad

-- ---- The step

-- A controller that is not good ends the step.
pub stepped_bad_controller : (c : Controller) (readings : List Reading) → good_controller c ≡ false
    → refused BadController c ≡ stepped c readings
unfolding stepped
stepped_bad_controller c readings bad = cond_false _ _ bad

-- The controller judged, then each cord, make the step.
pub stepped_by_all : (c : Controller) (readings : List Reading) → length readings ≤ 4 → stepped_by c (judged_all (judged_first c) 0 readings) ≡ stepped c readings
unfolding stepped
stepped_by_all c readings h = go (good_controller c) refl
  where
    go : (b : Bool) → good_controller c ≡ b → stepped_by c (judged_all (judged_first c) 0 readings) ≡ stepped c readings
    go true good =
        ap (λ (j : JudgedCords). stepped_by c (judged_all j 0 readings)) (sym (cond_true _ _ good))
        ∙ all_good c no_tally 0 readings (omega (arith, h))
        ∙ judged-same c 0 readings _ _ (λ rs. ap accepted (successor_from_none c (errors readings) rs))
        ∙ cond_true _ _ good
    go false bad =
        ap (λ (j : JudgedCords). stepped_by c (judged_all j 0 readings)) (sym (cond_false _ _ bad))
        ∙ ap (stepped_by c) (all_bad BadController 0 readings)
        ∙ stepped_bad_controller c readings bad

-- The same of four cords.
pub stepped_by_four : (c : Controller) (first second third fourth : Reading)
    → stepped_by c (judged_with (judged_with (judged_with (judged_with (judged_first c) 0 first) 1 second) 2 third) 3 fourth) ≡ stepped c (first ∷ second ∷ third ∷ fourth ∷ [])
stepped_by_four c first second third fourth = stepped_by_all c (first ∷ second ∷ third ∷ fourth ∷ []) (omega arith)

-- Four readings are those at their places.
pub judged_four : (j : JudgedCords) (readings : List Reading) (d : Reading) → length readings ≡ 4
    → judged_all j 0 readings
    ≡ judged_with (judged_with (judged_with (judged_with j 0 (get_or readings 0 d)) 1 (get_or readings 1 d)) 2 (get_or readings 2 d)) 3 (get_or readings 3 d)
judged_four j (first ∷ second ∷ third ∷ fourth ∷ []) d h = refl
judged_four j [] d h = absurd (omega (arith, h))
judged_four j (first ∷ []) d h = absurd (omega (arith, h))
judged_four j (first ∷ second ∷ []) d h = absurd (omega (arith, h))
judged_four j (first ∷ second ∷ third ∷ []) d h = absurd (omega (arith, h))
judged_four j (first ∷ second ∷ third ∷ fourth ∷ fifth ∷ rest) d h = absurd (omega (arith, h))
