-- What an operation comes to, whatever its result and its refusals are, and what it leaves in the lists that are lent to it.
use Rattle.std.specs.Prelude.{Bool, cond, List, [], ◌∷◌, ℕ, ltb, length}
use Rattle.std.proofs.lemmas.List.Edits.{sets}

-- An outcome: accepted with a result, or refused.
pub data Outcome (A R : Type 0) : Type 0 where
  accepted : A → Outcome A R
  refused : R → Outcome A R

-- ---- Reasons to refuse

-- A reason to refuse: whether it holds, and the refusal that it gives.
pub record Reason (R : Type 0) : Type 0 where
  pub holds : Bool
  pub refusal : R

-- The first reason that holds refuses; where none does, the result is accepted.
unfoldable pub unless : {A R : Type 0} → List (Reason R) → A → Outcome A R
unless [] result = accepted result
unless (reason ∷ rest) result = cond reason.holds (refused reason.refusal) (unless rest result)

-- A list of so many entries is too short for what is needed: the refusal is given the length needed.
abbrev pub too_short : {R : Type 0} → (ℕ → R) → (entries needed : ℕ) → Reason R
too_short refusal entries needed = record { holds = ltb entries needed; refusal = refusal needed }

-- An output for a list or buffer of so many entries, which may be too short.
abbrev pub fitting : {X R : Type 0} → (ℕ → R) → List X → ℕ → Outcome (List X) R
fitting refusal output entries = unless (too_short refusal entries (length output) ∷ []) output

-- ---- What the caller sees

-- What an outcome writes to a list, by what a result has for it: nothing where refused.
abbrev pub written : {A R X : Type 0} → (A → List X) → Outcome A R → List X
written output (accepted result) = output result
written output (refused refusal) = []

-- A list after an outcome: what is written stands at its front; entries past that are unchanged.
abbrev pub after : {A R X : Type 0} → (A → List X) → Outcome A R → List X → List X
after output outcome list = sets list 0 (written output outcome)

-- The numbers of an answer: 0 and the figures of the result, or the refusal's number and its place.
abbrev pub numbers_of : {A R : Type 0} → (A → List ℕ) → (number place : R → ℕ) → Outcome A R → List ℕ
numbers_of figures number place (accepted result) = 0 ∷ figures result
numbers_of figures number place (refused refusal) = number refusal ∷ place refusal ∷ []
