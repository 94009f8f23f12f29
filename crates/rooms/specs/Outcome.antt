-- Read and Write: what each comes to, as an answer and in the list or buffer lent.
use Rattle.std.specs.Prelude.{Result, Ok, Err, List, ℕ, length, take}
use Rattle.numbers.specs.Number.{fault_number}
use Rattle.numbers.specs.Sheet.{SheetEnding, whole, sheet_of, bytes_of}
use Rattle.numbers.specs.Sheet as sheet
use Rattle.outcomes.specs.Outcome.{Outcome, accepted, refused, fitting}
use Rattle.outcomes.specs.Part.{when_good}
use Rattle.rooms.specs.Part.{Step}
use Rattle.rooms.specs.Table.{Room}
use Rattle.rooms.specs.Limits.{checked}
use Rattle.rooms.specs.declared.SheetRefusal.{SheetRefusal}
use Rattle.rooms.specs.declared.SheetRefusal.TheVariants.{BadNumber, WordMissing, WordOutOfRange}
use Rattle.rooms.specs.declared.SheetRefusal.TheVariants.{GreatestBelowLeast, SharesNotWhole, WordsLeftOver}
use Rattle.rooms.specs.declared.SheetRefusal.TheVariants.{LowsAboveLimit, OutputTooShort}
use Rattle.numbers.specs.declared.Unwritten.{Unwritten}
use Rattle.numbers.specs.declared.Unwritten.TheVariants.{TooLarge, TooShort}

-- ---- Numbers and places

-- A refusal's number.
abbrev pub sheet_refusal_number : SheetRefusal → ℕ
sheet_refusal_number (BadNumber fault place) = fault_number fault
sheet_refusal_number (WordMissing place) = 4
sheet_refusal_number (WordOutOfRange place) = 5
sheet_refusal_number (GreatestBelowLeast place) = 6
sheet_refusal_number (SharesNotWhole place) = 7
sheet_refusal_number (WordsLeftOver place) = 8
sheet_refusal_number (LowsAboveLimit place) = 9
sheet_refusal_number (OutputTooShort place) = 12

-- A refusal's place.
abbrev pub sheet_refusal_place : SheetRefusal → ℕ
sheet_refusal_place (BadNumber fault place) = place
sheet_refusal_place (WordMissing place) = place
sheet_refusal_place (WordOutOfRange place) = place
sheet_refusal_place (GreatestBelowLeast place) = place
sheet_refusal_place (SharesNotWhole place) = place
sheet_refusal_place (WordsLeftOver place) = place
sheet_refusal_place (LowsAboveLimit place) = place
sheet_refusal_place (OutputTooShort place) = place

-- Why a sheet is not written, as a refusal. (No word of a good table is too large to be written.)
abbrev pub unwritten_refusal : Unwritten → SheetRefusal
unwritten_refusal (TooShort needed) = OutputTooShort needed
unwritten_refusal (TooLarge index) = WordOutOfRange index

-- An answer's number, 0 if accepted, and its figure: the count written, or the refusal's place.
abbrev pub sheet_number : Result ℕ SheetRefusal → ℕ
sheet_number (Ok count) = 0
sheet_number (Err refusal) = sheet_refusal_number refusal

abbrev pub sheet_figure : Result ℕ SheetRefusal → ℕ
sheet_figure (Ok count) = count
sheet_figure (Err refusal) = sheet_refusal_place refusal

-- ---- Outcomes

-- What Read and Write come to: the words or bytes that are written, or a refusal.
abbrev pub SheetOutcome : Type 0
SheetOutcome = Outcome (List ℕ) SheetRefusal

-- The answer to an outcome.
abbrev pub answer_of : SheetOutcome → Result ℕ SheetRefusal
answer_of (accepted output) = Ok (length output)
answer_of (refused refusal) = Err refusal

-- An output for a list or buffer of so many entries, where the table is good. Refused: as the table is; else too short (12), at the
-- length needed.
abbrev pub if_good : Step Room → List ℕ → ℕ → SheetOutcome
if_good step output entries = when_good (λ refusal. refusal) step (λ room. fitting OutputTooShort output entries)

-- ---- Read and Write

-- The words of a sheet, all bytes judged before any word. Refused: the first number that is bad (1 to 3), where it starts.
abbrev pub read_words : List ℕ → SheetEnding → ℕ → SheetOutcome
read_words words whole entries = if_good (checked words 0) words entries
read_words words (sheet.refused fault place) entries = refused (BadNumber fault place)

-- Read: sheet bytes into a list of so many words.
unfoldable pub reading : List ℕ → ℕ → SheetOutcome
reading bytes entries = read_words (sheet_of bytes).words (sheet_of bytes).ending entries

-- Read by way of a list that takes only so many words, the first of the sheet's: these are read as the whole table, once all
-- bytes are judged. Where it takes one more than a table may have, this is Read (`FirstWordsDecide`, Promises.antt).
unfoldable pub reading_first : ℕ → List ℕ → ℕ → SheetOutcome
reading_first taken bytes entries = read_words (take taken (sheet_of bytes).words) (sheet_of bytes).ending entries

-- Write: a table into a buffer of so many bytes.
unfoldable pub writing : List ℕ → ℕ → SheetOutcome
writing table entries = if_good (checked table 0) (bytes_of table) entries
