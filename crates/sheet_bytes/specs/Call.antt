-- Read and Write, called from C: what each returns and leaves in every byte of every buffer, for every length.
--
-- A list of n bytes is one of n / 4 words, each of four bytes with the lowest first; the bytes over are left alone.
use Rattle.std.specs.Prelude.{List, [], ◌∷◌, ℕ, ◌/◌, length}
use Rattle.words.specs.Bytes.{words_of, bytes_of}
use Rattle.calls.specs.Call.{OutcomeCall}
use Rattle.rooms.specs.Outcome.{SheetOutcome, answer_of, sheet_number, sheet_figure, reading, writing}

-- The numbers of the answer to an outcome: its number, and its figure.
abbrev pub numbers_of : SheetOutcome → List ℕ
numbers_of outcome = sheet_number (answer_of outcome) ∷ sheet_figure (answer_of outcome) ∷ []

-- Read, called from C: the table holds a word for every four of its bytes.
abbrev pub ReadCall : (sheet table answer : List ℕ) (r : ℕ) (table' answer' : List ℕ) → Type 0
ReadCall sheet table answer r table' answer' = OutcomeCall 2 numbers_of bytes_of (reading sheet (length table / 4)) table answer r table' answer'

-- Write, called from C.
abbrev pub WriteCall : (table sheet answer : List ℕ) (r : ℕ) (sheet' answer' : List ℕ) → Type 0
WriteCall table sheet answer r sheet' answer' =
    OutcomeCall 2 numbers_of (λ bytes. bytes) (writing (words_of table) (length sheet)) sheet answer r sheet' answer'
