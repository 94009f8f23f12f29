-- Part, called from C: what it returns and leaves in every byte of every buffer, for every length.
--
-- A word is four bytes of its list, the lowest first. Where a length is no multiple of four, the last bytes belong to no word.
use Rattle.std.specs.Prelude.{Bool, List, ℕ, ◌/◌, length}
use Rattle.outcomes.specs.Outcome.{after}
use Rattle.words.specs.Bytes.{words_of, bytes_of}
use Rattle.calls.specs.Call.{Call, Left}
use Rattle.part.specs.Outcome.{PartOutcome, parting, part_numbers}

-- Both outputs after an outcome: a part stands at the front of each; bytes past it, and all where refused, are unchanged.
pub record PartsLeft (outcome : PartOutcome) (first second first' second' : List ℕ) (stored : Bool) : Type 0 where
  pub first_after : Left (after (λ parts. bytes_of parts.first) outcome first) first first' stored
  pub second_after : Left (after (λ parts. bytes_of parts.second) outcome second) second second' stored

-- The call that comes to an outcome, with an answer of up to three numbers.
abbrev pub OutcomeCall : PartOutcome → (first second answer : List ℕ) (r : ℕ) (first' second' answer' : List ℕ) → Type 0
OutcomeCall outcome first second answer r first' second' answer' =
    Call 3 (part_numbers outcome) answer (PartsLeft outcome first second first' second') r answer'

-- Part, called from C: the table is the words of its bytes, and each output holds a word for every four of its bytes.
abbrev pub PartCall : (table : List ℕ) (nodes servers : ℕ) (first second answer : List ℕ) (r : ℕ) (first' second' answer' : List ℕ) → Type 0
PartCall table nodes servers first second answer r first' second' answer' =
    OutcomeCall (parting (words_of table) nodes servers (length first / 4) (length second / 4)) first second answer r first' second' answer'
