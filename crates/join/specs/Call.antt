-- The C call: what it returns and leaves in every byte of every buffer, for every length.
--
-- A word is four bytes of its list, the lowest first. Where a length is no multiple of four, the last bytes belong to no word.
use Rattle.std.specs.Prelude.{List, [], ◌∷◌, ℕ, ◌/◌, length}
use Rattle.words.specs.Bytes.{words_of, bytes_of}
use Rattle.calls.specs.Call.{OutcomeCall}
use Rattle.join.specs.Outcome.{JoinOutcome, joining, answer_of, join_number, join_figure}

-- The numbers of the answer to an outcome: its number, and its figure.
abbrev pub join_numbers : JoinOutcome → List ℕ
join_numbers outcome = join_number (answer_of outcome) ∷ join_figure (answer_of outcome) ∷ []

-- Join, called from C: each table is the words of its bytes, and the output holds a word for every four of its bytes.
abbrev pub JoinCall : (first second table answer : List ℕ) (r : ℕ) (table' answer' : List ℕ) → Type 0
JoinCall first second table answer r table' answer' =
    OutcomeCall 2 join_numbers bytes_of (joining (words_of first) (words_of second) (length table / 4)) table answer r table' answer'
