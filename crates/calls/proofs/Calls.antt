-- Laws of the C calls: how an answer is stored, and one law for each way that a call returns.
use mathlib.Core.Path.{◌≡◌, refl, sym, ap, ◌∙◌}
use mathlib.Core.Bool.{Bool, true, false}
use mathlib.Core.List.{List, [], ◌∷◌, ◌++◌, append_assoc, append-nil}
use Prim.Native.Nat.{ℕ, ◌+◌, ◌*◌, ◌≤◌, ◌<◌}
use native.Mathlib.Omega.{arith}
use borrow.Author.Tests.{le-leb, lt-leb}
use native.Mathlib.Numerals.{add-one}
use lib.ListN.{length, length-append, get_or, take}
use lib.Seq.{sets, length-sets, length-take-le, take-suc}
use Rattle.words.specs.Bytes.{little_endian, number_stored}
use Rattle.figures.proofs.Stores.{sets-append}
use Rattle.words.proofs.Bytes.{length-little_endian, number_stored_whole}
use Rattle.calls.specs.Call.{answer_bytes, holds_answer, answered, Call}

-- ---- The answer's buffer

module _ (count : ℕ) (buffer : List ℕ) where
  pub holds_answer_short : length buffer < 8 * count → holds_answer count buffer ≡ false
  unfolding holds_answer
  holds_answer_short h = lt-leb (8 * count) (length buffer) h

  pub holds_answer_long : 8 * count ≤ length buffer → holds_answer count buffer ≡ true
  unfolding holds_answer
  holds_answer_long h = le-leb (8 * count) (length buffer) h

  -- A buffer that is too short is left alone, and one that is long enough has the answer at its front.
  pub answered_short : (numbers : List ℕ) → length buffer < 8 * count → answered count numbers buffer ≡ buffer
  unfolding answered
  answered_short numbers h = rw (holds_answer_short h)

  pub answered_long : (numbers : List ℕ) → 8 * count ≤ length buffer → answered count numbers buffer ≡ sets buffer 0 (answer_bytes numbers)
  unfolding answered
  answered_long numbers h = rw (holds_answer_long h)

-- ---- Numbers, one after the other

pub length-answer_bytes : (numbers : List ℕ) → length (answer_bytes numbers) ≡ 8 * length numbers
unfolding answer_bytes
length-answer_bytes [] = refl
length-answer_bytes (n ∷ rest) = omega (arith, length-append (little_endian 8 n) (answer_bytes rest), length-little_endian 8 n, length-answer_bytes rest)

answer_bytes_more : (numbers : List ℕ) (number : ℕ) → answer_bytes (numbers ++ (number ∷ [])) ≡ answer_bytes numbers ++ little_endian 8 number
unfolding answer_bytes
answer_bytes_more [] number = append-nil (little_endian 8 number)
answer_bytes_more (n ∷ rest) number =
    ap (λ (l : List ℕ). little_endian 8 n ++ l) (answer_bytes_more rest number) ∙ sym (append_assoc (little_endian 8 n) (answer_bytes rest) (little_endian 8 number))

-- A turn of a loop that stores numbers from a place on: one more, behind those that are stored.
pub store_turn : (buffer numbers : List ℕ) (from i : ℕ) {stored stored' : List ℕ} → i < length numbers → from + 8 * length numbers ≤ length buffer
    → stored ≡ sets buffer from (answer_bytes (take i numbers)) → stored' ≡ number_stored (get_or numbers i 0) stored (from + 8 * i)
    → stored' ≡ sets buffer from (answer_bytes (take (i + 1) numbers))
store_turn buffer numbers from i {stored} {stored'} h room s m =
    let front = answer_bytes (take i numbers) in
    let size : length stored ≡ length buffer = ap length s ∙ length-sets buffer from front in
    let place : from + length front ≡ from + 8 * i = omega (arith, length-answer_bytes (take i numbers), length-take-le i numbers (omega arith)) in
    m ∙ number_stored_whole (get_or numbers i 0) stored (from + 8 * i) (omega arith)
    ∙ sym (rw (add-one, take-suc numbers i 0 h, answer_bytes_more (take i numbers) (get_or numbers i 0), sets-append, place, s) refl)

-- 0 and figures, and a refusal's number and place, as they stand in a buffer with space for so many numbers.
pub told_accepted : (count : ℕ) (buffer figures : List ℕ) {one two : List ℕ} → 8 * count ≤ length buffer → one ≡ sets buffer 0 (answer_bytes (0 ∷ []))
    → two ≡ sets one 8 (answer_bytes figures) → two ≡ answered count (0 ∷ figures) buffer
unfolding answer_bytes little_endian
told_accepted count buffer figures h a b =
    b ∙ ap (λ (l : List ℕ). sets l 8 (answer_bytes figures)) a ∙ sym (answered_long count buffer (0 ∷ figures) h)

pub told_refused : (count : ℕ) (buffer : List ℕ) {one : List ℕ} {number place k v : ℕ} → 8 * count ≤ length buffer → k ≡ number → v ≡ place
    → one ≡ sets buffer 0 (answer_bytes (k ∷ v ∷ [])) → one ≡ answered count (number ∷ place ∷ []) buffer
told_refused count buffer {one} {number} {place} h n p a = rw (n, p) at a ∙ sym (answered_long count buffer (number ∷ place ∷ []) h)

-- ---- The call

module _ {count : ℕ} (numbers answer : List ℕ) (Buffers : Bool → Type 0) where
  -- Where the answer's buffer is too short, nothing is changed.
  pub call_short : length answer < 8 * count → Buffers false → Call count numbers answer Buffers 0 answer
  call_short h unchanged =
      let short = holds_answer_short count answer h in
      record { returned = rw short; buffers_after = rw short unchanged; answer-after = sym (answered_short count answer numbers h) }

  -- Where it is long enough, it has the answer, and the buffers are filled.
  pub call_done : {answer' : List ℕ} → 8 * count ≤ length answer → Buffers true → answer' ≡ answered count numbers answer → Call count numbers answer Buffers 1 answer'
  call_done h filled a =
      let long = holds_answer_long count answer h in
      record { returned = rw long; buffers_after = rw long filled; answer-after = a }
