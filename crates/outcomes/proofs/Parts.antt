-- What follows a step of which it is known how it went.
use mathlib.Core.Path.{◌≡◌, refl, sym, ap}
use Prim.Native.Nat.{ℕ}
use Rattle.outcomes.specs.Outcome.{Outcome, accepted, refused}
use Rattle.outcomes.specs.Part.{Step, good, bad, Good, when_good}
use Rattle.outcomes.proofs.Outcomes.{accepted≢refused}

module _ {R S A B : Type 0} (refusal : R → S) {step : Step R A} (k : A → Outcome B S) where
  pub good_goes_on : {a : A} {next : ℕ} → step ≡ good a next → when_good refusal step k ≡ k a
  good_goes_on e = ap (λ (s : Step R A). when_good refusal s k) e

  pub bad_stands : {q : R} → step ≡ bad q → when_good refusal step k ≡ refused (refusal q)
  bad_stands e = ap (λ (s : Step R A). when_good refusal s k) e

-- What is accepted follows a good step.
module _ {R S A B : Type 0} (refusal : R → S) (k : A → Outcome B S) where
  pub record Went (step : Step R A) (result : B) : Type 0 where
    pub good_step : Good step
    pub is : k good_step.value ≡ accepted result

  pub accepted_went : (step : Step R A) {result : B} → when_good refusal step k ≡ accepted result → Went step result
  accepted_went (good a next) e = record { good_step = record { value = a; next = next; is = refl }; is = e }
  accepted_went (bad q) e = absurd (accepted≢refused (sym e))
