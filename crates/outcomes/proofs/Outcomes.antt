-- How reasons to refuse are worked off, one after the other, and what an outcome says.
use mathlib.Core.Path.{◌≡◌, refl, sym, ap, subst, ◌∙◌}
use mathlib.Core.Bool.{Bool, true, false, cond}
use mathlib.Core.List.{List, [], ◌∷◌}
use Prim.Native.Nat.{ℕ, ◌≤◌, ◌<◌}
use native.Mathlib.Omega.{arith}
use lib.ListN.{length}
use borrow.Author.Tests.{ltb-false, lt-ltb, le-ltb}
use Rattle.outcomes.specs.Outcome.{Outcome, accepted, refused, Reason, unless, too_short, fitting}

module _ {A R : Type 0} where
  -- An outcome is not both.
  pub accepted≢refused : {result : A} {refusal : R} → ◌≡◌ {A = Outcome A R} (accepted result) (refused refusal) → ⊥
  accepted≢refused e = let z : ◌≡◌ {A = ℕ} 0 1 = cc in omega arith

  -- What is accepted is one result.
  pub accepted_is : {result given : A} → ◌≡◌ {A = Outcome A R} (accepted result) (accepted given) → result ≡ given
  accepted_is e = cc

  module _ (reason : Reason R) (rest : List (Reason R)) (result : A) where
    -- The first reason that holds refuses, and one that does not is passed.
    pub unless_stop : reason.holds ≡ true → unless (reason ∷ rest) result ≡ refused reason.refusal
    unfolding unless
    unless_stop e = ap (λ (t : Bool). cond t (refused reason.refusal) (unless rest result)) e

    pub unless_pass : reason.holds ≡ false → unless (reason ∷ rest) result ≡ unless rest result
    unfolding unless
    unless_pass e = ap (λ (t : Bool). cond t (refused reason.refusal) (unless rest result)) e

    -- What holds where this reason refuses, and of what the others come to, holds.
    pub unless_either : (P : Outcome A R → Type 0) → (reason.holds ≡ true → P (refused reason.refusal))
        → (reason.holds ≡ false → P (unless rest result)) → P (unless (reason ∷ rest) result)
    unless_either P own others = go reason.holds refl
      where
        go : (t : Bool) → reason.holds ≡ t → P (unless (reason ∷ rest) result)
        go true h = subst P (sym (unless_stop h)) (own h)
        go false h = subst P (sym (unless_pass h)) (others h)

    -- Where a result is accepted, a reason does not hold, and the others decide.
    pub unless-back : {given : A} → unless (reason ∷ rest) result ≡ accepted given → (reason.holds ≡ false) × (unless rest result ≡ accepted given)
    unless-back {given} e = unless_either (λ o. o ≡ accepted given → (reason.holds ≡ false) × (unless rest result ≡ accepted given))
        (λ h d. absurd (accepted≢refused (sym d))) (λ h d. (h, d)) e

  -- Where no reason is left, the result is accepted.
  pub unless_none : (result : A) → unless {R = R} [] result ≡ accepted result
  unfolding unless
  unless_none result = refl

  -- What is accepted is the result that was to be.
  pub unless_is : (reasons : List (Reason R)) (result given : A) → unless reasons result ≡ accepted given → given ≡ result
  unfolding unless
  unless_is [] result given e = cc
  unless_is (reason ∷ rest) result given e = unless_is rest result given (unless-back reason rest result e).1

-- ---- Outputs

module _ {X R : Type 0} (refusal : ℕ → R) (output : List X) (entries : ℕ) where
  -- An output is too short for its list, or fits it.
  pub fitting_short : entries < length output → fitting refusal output entries ≡ refused (refusal (length output))
  fitting_short h = unless_stop (too_short refusal entries (length output)) [] output (lt-ltb entries (length output) h)

  pub fitting_whole : length output ≤ entries → fitting refusal output entries ≡ accepted output
  fitting_whole h = unless_pass (too_short refusal entries (length output)) [] output (le-ltb entries (length output) h) ∙ unless_none output

  -- What holds of either holds.
  pub fitting_either : (P : Outcome (List X) R → Type 0) → P (refused (refusal (length output))) → P (accepted output) → P (fitting refusal output entries)
  fitting_either P short whole =
      unless_either (too_short refusal entries (length output)) [] output P (λ _. short) (λ _. subst P (sym (unless_none output)) whole)

  -- What is accepted is the output, and fits.
  pub fitting_is : {given : List X} → fitting refusal output entries ≡ accepted given → output ≡ given
  fitting_is e = sym (unless_is _ output _ e)

  pub fitting_fits : {given : List X} → fitting refusal output entries ≡ accepted given → length given ≤ entries
  fitting_fits {given} e = rw (← fitting_is e) (ltb-false entries (length output) (unless-back _ [] output e).0)
