-- The sheet (document 01): words as numbers, nothing between or after.
use Rattle.std.specs.Prelude.{Result, Ok, Err, cond, List, [], ◌∷◌, ◌++◌, ℕ, zero, suc, ◌+◌, length, drop, ltb, leb}
use Rattle.std.proofs.lemmas.List.Edits.{sets}
use Rattle.figures.specs.Bounds.{first_not_below}
use Rattle.numbers.specs.declared.Fault.{Fault}
use Rattle.numbers.specs.declared.BadNumber.{BadNumber}
use Rattle.numbers.specs.declared.Unwritten.{Unwritten}
use Rattle.numbers.specs.declared.Unwritten.TheVariants.{TooLarge, TooShort}
use Rattle.numbers.specs.Number.{Front, good, bad, number, form, form_limit}

-- ---- reading

-- How the numbers of a sheet end: with its last byte, or at a fault, in the number that starts at a place.
pub data SheetEnding : Type 0 where
  whole : SheetEnding
  refused : Fault → ℕ → SheetEnding

-- A sheet as it is read: the good numbers in front, in order, and how they end.
pub record Sheet : Type 0 where
  pub words : List ℕ
  pub ending : SheetEnding

-- What stands at a place of the sheet, followed by what the bytes after it hold.
abbrev pub onto : ℕ → Front → (ℕ → Sheet) → Sheet
onto at (good value size) rest = record { words = value ∷ (rest size).words; ending = (rest size).ending }
onto at (bad fault) rest = record { words = []; ending = refused fault at }

-- The bytes of a sheet from a place on. A number takes at least one byte, so a `fuel` of their count is enough.
unfoldable pub sheet_from : ℕ → ℕ → List ℕ → Sheet
sheet_from zero at bytes = record { words = []; ending = whole }
sheet_from (suc fuel) at [] = record { words = []; ending = whole }
sheet_from (suc fuel) at (b ∷ bytes) = onto at (number (b ∷ bytes)) (λ size. sheet_from fuel (at + size) (drop size (b ∷ bytes)))

-- A whole sheet, number by number.
abbrev pub sheet_of : List ℕ → Sheet
sheet_of bytes = sheet_from (length bytes) 0 bytes

-- The answer on a sheet of `count` good numbers.
abbrev pub answer : ℕ → SheetEnding → Result ℕ BadNumber
answer count whole = Ok count
answer count (refused fault at) = Err (record { fault = fault; place = at })

-- The answer on a sheet.
abbrev pub judged : Sheet → Result ℕ BadNumber
judged sheet = answer (length sheet.words) sheet.ending

-- ---- writing

-- The sheet of some words.
unfoldable pub bytes_of : List ℕ → List ℕ
bytes_of [] = []
bytes_of (w ∷ words) = form w ++ bytes_of words

-- The index of the first word that has no form; the count of words, if each has one.
abbrev pub first_formless : List ℕ → ℕ
first_formless words = first_not_below form_limit words

-- What becomes of `size` bytes that are to stand in a sheet with space for so many.
abbrev pub fitted : ℕ → ℕ → Result ℕ Unwritten
fitted size space = cond (leb size space) (Ok size) (Err (TooShort size))

-- What becomes of words that are to stand in a sheet with space for so many bytes.
abbrev pub written : List ℕ → ℕ → Result ℕ Unwritten
written words space =
    cond (ltb (first_formless words) (length words)) (Err (TooLarge (first_formless words))) (fitted (length (bytes_of words)) space)

-- The sheet after that answer: words that were not written left it unchanged.
abbrev pub after_encode_sheet : Result ℕ Unwritten → List ℕ → List ℕ → List ℕ
after_encode_sheet (Ok size) words sheet = sets sheet 0 (bytes_of words)
after_encode_sheet (Err why) words sheet = sheet
