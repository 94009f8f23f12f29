-- The C calls: what each returns and leaves in its buffers, whatever its operation.
use Rattle.std.specs.Prelude.{◌≡◌, Bool, cond, List, [], ◌∷◌, ◌++◌, ℕ, ◌*◌, leb, length, Result, Ok, Err}
use Rattle.std.proofs.lemmas.List.Edits.{sets}
use Rattle.outcomes.specs.Outcome.{Outcome, after}
use Rattle.words.specs.Bytes.{little_endian}

-- ---- Answers

-- The bytes of an answer's numbers, eight bytes each, low byte first.
unfoldable pub answer_bytes : List ℕ → List ℕ
answer_bytes [] = []
answer_bytes (number ∷ rest) = little_endian 8 number ++ answer_bytes rest

-- Whether a buffer is long enough for an answer of so many numbers.
unfoldable pub holds_answer : ℕ → List ℕ → Bool
holds_answer count buffer = leb (8 * count) (length buffer)

-- A buffer after an answer of up to so many numbers: they stand at its front; or it is as it was, where it is too short for so many.
unfoldable pub answered : ℕ → List ℕ → List ℕ → List ℕ
answered count numbers buffer = cond (holds_answer count buffer) (sets buffer 0 (answer_bytes numbers)) buffer

-- The numbers of an answer: 0 and the figures of a result, or a refusal's number and place.
abbrev pub told_numbers : {A R : Type 0} → (figures : A → List ℕ) → (number place : R → ℕ) → Result A R → List ℕ
told_numbers figures number place (Ok result) = 0 ∷ figures result
told_numbers figures number place (Err refusal) = number refusal ∷ place refusal ∷ []

-- ---- Calls

-- What a call whose answer has up to so many numbers returns and leaves: 1, with the answer stored; or 0, where the answer's buffer is
-- too short. `Buffers` says what its other lists and buffers are left as, by whether the answer was stored.
pub record Call (count : ℕ) (numbers answer : List ℕ) (Buffers : Bool → Type 0) (r : ℕ) (answer' : List ℕ) : Type 0 where
  pub returned : r ≡ cond (holds_answer count answer) 1 0
  pub buffers_after : Buffers (holds_answer count answer)
  pub answer-after : answer' ≡ answered count numbers answer

-- A list or buffer that a call leaves filled, or unchanged where the answer was not stored.
abbrev pub Left : {X : Type 0} → (filled before after : X) → Bool → Type 0
Left filled before after stored = after ≡ cond stored filled before

-- The call of an operation that comes to an outcome and writes one buffer, by the bytes that a result has for it.
abbrev pub OutcomeCall : {A R : Type 0} → ℕ → (Outcome A R → List ℕ) → (A → List ℕ) → Outcome A R
    → (buffer answer : List ℕ) (r : ℕ) (buffer' answer' : List ℕ) → Type 0
OutcomeCall count numbers output outcome buffer answer r buffer' answer' =
    Call count (numbers outcome) answer (Left (after output outcome buffer) buffer buffer') r answer'
