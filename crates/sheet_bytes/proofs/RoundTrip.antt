-- What a caller reads from an answer, and what of it makes a round trip.
use mathlib.Core.Path.{◌≡◌, refl, sym, ap, ◌∙◌}
use mathlib.Core.Bool.{Bool, true, false, cond}
use mathlib.Core.List.{List, [], ◌∷◌, ◌++◌, append-nil}
use Prim.Native.Nat.{ℕ, zero, suc, ◌+◌, ◌*◌, ◌/◌, ◌%◌, ◌^◌, ◌≤◌, ◌<◌}
use native.Mathlib.Omega.{arith}
use borrow.Author.Tests.{leb-true, leb-false}
use lib.Dec.{leb}
use lib.ListN.{length, take, drop, length-append}
use lib.Seq.{sets, take_all, take_at, drop_at, take-append-le, drop-append-le}
use Rattle.figures.specs.Bounds.{AllBelow}
use Rattle.words.specs.Bytes.{little_endian, word, words_of, bytes_of}
use Rattle.figures.proofs.Stores.{sets-front}
use Rattle.words.proofs.Bytes.{length-little_endian}
use Rattle.calls.specs.Call.{answer_bytes, holds_answer, answered, OutcomeCall}
use Rattle.calls.proofs.Calls.{answered_long, holds_answer_short, holds_answer_long}
use Rattle.numbers.specs.declared.Fault.TheVariants.{TooLong, NotShortest, CutShort}
use Rattle.rooms.specs.declared.SheetRefusal.{SheetRefusal}
use Rattle.rooms.specs.declared.SheetRefusal.TheVariants.{BadNumber, WordMissing, WordOutOfRange, GreatestBelowLeast, SharesNotWhole, WordsLeftOver, LowsAboveLimit, OutputTooShort}
use Rattle.outcomes.specs.Outcome.{accepted, refused}
use Rattle.rooms.specs.Outcome.{SheetOutcome, sheet_refusal_number}
use Rattle.sheet_bytes.specs.Call.{numbers_of}
use Rattle.sheet_bytes.specs.Promises.{number_of, Accepted}

-- ---- Numbers as bytes

-- k bytes carry a number.
unfoldable Carry : ℕ → ℕ → Type 0
Carry zero v = v ≡ 0
Carry (suc k) v = Carry k (v / 256)

-- They give it back.
number_of-little_endian : (k v : ℕ) → Carry k v → number_of (little_endian k v) ≡ v
unfolding Carry number_of little_endian
number_of-little_endian zero v h = sym h
number_of-little_endian (suc k) v h = rw (number_of-little_endian k (v / 256) h) (omega arith)

-- Eight bytes carry any count of a room.
eight_carry : (v : ℕ) → v < 2 ^ 32 → Carry 8 v
unfolding Carry
eight_carry v h = omega arith

-- One byte, and the bytes of what is above it.
little_endian-above : (k b v : ℕ) → b < 256 → little_endian (suc k) (b + 256 * v) ≡ b ∷ little_endian k v
unfolding little_endian
little_endian-above k b v h =
    let low : (b + 256 * v) % 256 ≡ b = omega arith in
    let above : (b + 256 * v) / 256 ≡ v = omega arith in
    rw (low, above)

-- The four bytes of a word are those that it was made of.
little_endian-word : (a b c d : ℕ) → a < 256 → b < 256 → c < 256 → d < 256 → little_endian 4 (word a b c d) ≡ a ∷ b ∷ c ∷ d ∷ []
unfolding little_endian
little_endian-word a b c d ha hb hc hd =
    let e : word a b c d ≡ a + 256 * (b + 256 * (c + 256 * (d + 256 * 0))) = omega arith in
    rw (e, little_endian-above 3 a (b + 256 * (c + 256 * (d + 256 * 0))) ha, little_endian-above 2 b (c + 256 * (d + 256 * 0)) hb, little_endian-above 1 c (d + 256 * 0) hc)
    (ap (λ (l : List ℕ). a ∷ b ∷ c ∷ l) (little_endian-above 0 d 0 hd))

-- The words of some bytes have all of the bytes but those over.
pub bytes_of-words_of : (bytes : List ℕ) → AllBelow 256 bytes → bytes_of (words_of bytes) ≡ take (4 * (length bytes / 4)) bytes
unfolding bytes_of words_of
bytes_of-words_of [] h = refl
bytes_of-words_of (a ∷ []) h = refl
bytes_of-words_of (a ∷ b ∷ []) h = refl
bytes_of-words_of (a ∷ b ∷ c ∷ []) h = refl
bytes_of-words_of (a ∷ b ∷ c ∷ d ∷ bytes) h =
    let e : 4 * (length (a ∷ b ∷ c ∷ d ∷ bytes) / 4) ≡ suc (suc (suc (suc (4 * (length bytes / 4))))) = omega arith in
    rw (e, little_endian-word a b c d (h 0) (h 1) (h 2) (h 3), bytes_of-words_of bytes (λ i. h (suc (suc (suc (suc i))))))

-- ---- What an answer tells

module _ (number figure : ℕ) (answer : List ℕ) (h : 16 ≤ length answer) where
  both : List ℕ
  both = little_endian 8 number ++ little_endian 8 figure

  sixteen : length both ≡ 16
  unfolding both
  sixteen = omega (arith, length-append (little_endian 8 number) (little_endian 8 figure), length-little_endian 8 number, length-little_endian 8 figure)

  laid_out : answered 2 (number ∷ figure ∷ []) answer ≡ both ++ drop 16 answer
  unfolding both answer_bytes
  laid_out =
      answered_long 2 answer (number ∷ figure ∷ []) (omega arith)
      ∙ ap (λ (l : List ℕ). sets answer 0 (little_endian 8 number ++ l)) (append-nil (little_endian 8 figure))
      ∙ sets-front answer both ∙ rw (take_all (length answer) both (omega (arith, sixteen)), sixteen)

  pub number-told : take 8 (answered 2 (number ∷ figure ∷ []) answer) ≡ little_endian 8 number
  unfolding both
  number-told =
      rw laid_out (take-append-le 8 both (drop 16 answer) (omega (arith, sixteen)) ∙ take_at (little_endian 8 number) (little_endian 8 figure) 8 (length-little_endian 8 number))

  pub figure_told : take 8 (drop 8 (answered 2 (number ∷ figure ∷ []) answer)) ≡ little_endian 8 figure
  unfolding both
  figure_told =
      rw laid_out (rw (drop-append-le 8 both (drop 16 answer) (omega (arith, sixteen)), drop_at (little_endian 8 number) (little_endian 8 figure) 8 (length-little_endian 8 number))
      (take_at (little_endian 8 figure) (drop 16 answer) 8 (length-little_endian 8 figure)))

  -- The numbers that a caller reads from there.
  pub number_of-told : number < 2 ^ 32 → number_of (take 8 (answered 2 (number ∷ figure ∷ []) answer)) ≡ number
  number_of-told small = rw number-told (number_of-little_endian 8 number (eight_carry number small))

  pub figure_of_told : figure < 2 ^ 32 → number_of (take 8 (drop 8 (answered 2 (number ∷ figure ∷ []) answer))) ≡ figure
  figure_of_told small = rw figure_told (number_of-little_endian 8 figure (eight_carry figure small))

-- A refusal's number is none of an accepted call.
refusal-number : (q : SheetRefusal) → (0 < sheet_refusal_number q) × (sheet_refusal_number q ≤ 12)
refusal-number (BadNumber TooLong p) = omega arith
refusal-number (BadNumber NotShortest p) = omega arith
refusal-number (BadNumber CutShort p) = omega arith
refusal-number (WordMissing p) = omega arith
refusal-number (WordOutOfRange p) = omega arith
refusal-number (GreatestBelowLeast p) = omega arith
refusal-number (SharesNotWhole p) = omega arith
refusal-number (WordsLeftOver p) = omega arith
refusal-number (LowsAboveLimit p) = omega arith
refusal-number (OutputTooShort p) = omega arith

-- ---- Calls that are accepted

-- A call that returned 1 had space for its answer.
returned_one : (answer : List ℕ) {r : ℕ} → r ≡ cond (holds_answer 2 answer) 1 0 → r ≡ 1 → 16 ≤ length answer
returned_one answer c e = go (leb 16 (length answer)) refl
  where
    go : (t : Bool) → leb 16 (length answer) ≡ t → 16 ≤ length answer
    go true l = leb-true 16 (length answer) l
    go false l = let z : ◌≡◌ {A = ℕ} 1 0 = sym e ∙ c ∙ rw (holds_answer_short 2 answer (omega (arith, leb-false 16 (length answer) l))) in absurd (omega arith)

-- What a call wrote, by its figure, and what it left of its output.
pub record Wrote (output : List ℕ → List ℕ) (buffer buffer' : List ℕ) (outcome : SheetOutcome) (figure : ℕ) : Type 0 where
  pub written : List ℕ
  pub is : outcome ≡ accepted written
  pub counted : length written < 2 ^ 32 → figure ≡ length written
  pub left : buffer' ≡ sets buffer 0 (output written)

module _ (output : List ℕ → List ℕ) (buffer answer : List ℕ) {r : ℕ} {buffer' answer' : List ℕ} where
  pub wrote : (outcome : SheetOutcome) {figure : ℕ} → OutcomeCall 2 numbers_of output outcome buffer answer r buffer' answer' → Accepted r answer' figure
      → Wrote output buffer buffer' outcome figure
  wrote (accepted written) call a =
      let long = returned_one answer call.returned a.returned in
      record {
        written = written;
        is = refl;
        counted = λ h. sym a.figure_is ∙ ap (λ (l : List ℕ). number_of (take 8 (drop 8 l))) call.answer-after ∙ figure_of_told 0 (length written) answer long h;
        left = call.buffers_after ∙ rw (holds_answer_long 2 answer (omega arith)) refl;
      }
  wrote (refused q) call a =
      let long = returned_one answer call.returned a.returned in
      let n = refusal-number q in
      let z : sheet_refusal_number q ≡ 0 =
      sym (number_of-told (sheet_refusal_number q) _ answer long (omega arith)) ∙ ap (λ (l : List ℕ). number_of (take 8 l)) (sym call.answer-after) ∙ a.number in
      absurd (omega arith)

  -- And the other way round: of an outcome that is accepted, a call with space for its answer tells so.
  pub accepted_so : {outcome : SheetOutcome} (written : List ℕ) → outcome ≡ accepted written → length written < 2 ^ 32 → 16 ≤ length answer
      → OutcomeCall 2 numbers_of output outcome buffer answer r buffer' answer'
      → Accepted r answer' (length written) × (buffer' ≡ sets buffer 0 (output written))
  accepted_so written e h long call = go (rw e at call)
    where
      go : OutcomeCall 2 numbers_of output (accepted written) buffer answer r buffer' answer' → Accepted r answer' (length written) × (buffer' ≡ sets buffer 0 (output written))
      go call = (
        record {
          returned = call.returned ∙ rw (holds_answer_long 2 answer (omega arith)) refl;
          number = rw call.answer-after (number_of-told 0 (length written) answer long (omega arith));
          figure_is = rw call.answer-after (figure_of_told 0 (length written) answer long h);
        },
        call.buffers_after ∙ rw (holds_answer_long 2 answer (omega arith)) refl,
      )
