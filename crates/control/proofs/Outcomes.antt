-- The three outcomes of a step, each with what it says of the controller and the readings.
use mathlib.Core.Path.{◌≡◌, refl, sym, ap, ◌∙◌}
use mathlib.Core.Bool.{Bool, true, false}
use mathlib.Core.List.{List, [], ◌∷◌}
use mathlib.Core.Logic.{◌⊎◌, inl, inr}
use Prim.Native.Nat.{ℕ, zero, suc, ◌+◌, ◌<◌}
use native.Mathlib.Nat.{add-zero, zero-add}
use native.Mathlib.Omega.{arith}
use Rattle.std.proofs.Common.{Ok}
use lib.ListN.{length, get_or}
use Rattle.control.specs.declared.Reading.{Reading}
use Rattle.control.specs.declared.Reading.TheVariants.{Failed}
use Rattle.control.specs.declared.Controller.{Controller}
use Rattle.control.specs.declared.StepRefusal.TheVariants.{BadController, BadReading}
use Rattle.control.specs.Step.{good_controller, good_reading, errors, successor, Stepped, refused, judged, stepped}
use Rattle.control.specs.Promises.{Sound, SoundReading, FirstUnsound}
use Rattle.control.proofs.Tests.{cond_true}
use Rattle.control.proofs.Cords.{judged_good, judged_bad, stepped_bad_controller}
use Rattle.control.proofs.Sound.{good_sound, not_good, good_sound_reading, not_good_reading}

-- Every reading is sound.
abbrev pub AllSound : List Reading → Type 0
AllSound readings = (i : ℕ) → i < length readings → SoundReading (get_or readings i Failed)

none_below : (j : ℕ) → j < 0 → ⊥
none_below j h = omega arith

-- The readings, judged from cord i on: all are sound, or one is the first that is not.
judgement : (c : Controller) (i : ℕ) (readings : List Reading) (next : Stepped)
    → (AllSound readings × (judged c i readings next ≡ next))
    ⊎ ((j : ℕ) × FirstUnsound readings j × (judged c i readings next ≡ refused (BadReading (i + j)) c))
unfolding judged
judgement c i [] next = inl (λ j h. absurd (none_below j h), refl)
judgement c i (reading ∷ rest) next = go (good_reading reading) refl (judgement c (suc i) rest next)
  where
    go : (b : Bool) → good_reading reading ≡ b
        → (AllSound rest × (judged c (suc i) rest next ≡ next)) ⊎ ((j : ℕ) × FirstUnsound rest j × (judged c (suc i) rest next ≡ refused (BadReading (suc i + j)) c))
        → (AllSound (reading ∷ rest) × (judged c i (reading ∷ rest) next ≡ next)) ⊎ ((j : ℕ) × FirstUnsound (reading ∷ rest) j × (judged c i (reading ∷ rest) next ≡ refused (BadReading (i + j)) c))
    go false bad later = inr (
      0,
      record { within = omega arith; unsound = not_good_reading reading bad; first = λ j h. absurd (none_below j h) },
      sym (judged_bad c i reading rest next bad) ∙ ap (λ (k : ℕ). refused (BadReading k) c) (sym (add-zero i)),
    )
    go true good (inl all) = inl (each, sym (judged_good c i reading rest next good) ∙ all.1)
      where
        each : AllSound (reading ∷ rest)
        each zero h = good_sound_reading reading good
        each (suc j) h = all.0 j (omega arith)
    go true good (inr (j, found, is)) =
        let moved : suc i + j ≡ i + suc j = omega arith in
        inr (
          suc j,
          record { within = omega (arith, found.within); unsound = found.unsound; first = before },
          sym (judged_good c i reading rest next good) ∙ is ∙ ap (λ (k : ℕ). refused (BadReading k) c) moved,
        )
      where
        before : (m : ℕ) → m < suc j → SoundReading (get_or (reading ∷ rest) m Failed)
        before zero h = good_sound_reading reading good
        before (suc m) h = found.first m (omega arith)

-- What a step comes to.
pub data Outcome (c : Controller) (readings : List Reading) : Type 0 where
  bad_controller : (Sound c → ⊥) → stepped c readings ≡ refused BadController c → Outcome c readings
  bad_reading : Sound c → (i : ℕ) → FirstUnsound readings i → stepped c readings ≡ refused (BadReading i) c → Outcome c readings
  all_sound : Sound c → AllSound readings → stepped c readings ≡ Ok (successor c (errors readings)) → Outcome c readings

pub outcome : (c : Controller) (readings : List Reading) → Outcome c readings
unfolding stepped
outcome c readings = go (good_controller c) refl (judgement c 0 readings (Ok (successor c (errors readings))))
  where
    next : Stepped
    next = Ok (successor c (errors readings))

    go : (b : Bool) → good_controller c ≡ b
        → (AllSound readings × (judged c 0 readings next ≡ next)) ⊎ ((j : ℕ) × FirstUnsound readings j × (judged c 0 readings next ≡ refused (BadReading (0 + j)) c))
        → Outcome c readings
    go false bad j = bad_controller (not_good c bad) (sym (stepped_bad_controller c readings bad))
    go true good (inl all) = all_sound (good_sound c good) all.0 (sym (cond_true _ _ good) ∙ all.1)
    go true good (inr (j, found, is)) = bad_reading (good_sound c good) j found (sym (cond_true _ _ good) ∙ is ∙ ap (λ (k : ℕ). refused (BadReading k) c) (zero-add j))
