-- What holds of the number form, apart from any code: reading undoes writing, and writing undoes reading.
-- proofs/Promises.antt proves each: `NumberReadsBack` as `number_reads_back`, and so on.
use Rattle.std.specs.Prelude.{◌≡◌, List, ◌++◌, ℕ, ◌^◌, ◌<◌, length, take}
use Rattle.figures.specs.Bounds.{AllBelow}
use Rattle.numbers.specs.Number.{good, number, form}
use Rattle.numbers.specs.Sheet.{whole, sheet_of, bytes_of}

-- A number that was written is read back, whatever bytes follow it.
abbrev pub NumberReadsBack : Type 0
NumberReadsBack = (value : ℕ) (rest : List ℕ) → value < 2 ^ 28 → number (form value ++ rest) ≡ good value (length (form value))

-- A number that was read is written as the bytes that it was read from.
abbrev pub NumberWritesBack : Type 0
NumberWritesBack = (bytes : List ℕ) (value size : ℕ) → AllBelow 256 bytes → number bytes ≡ good value size → form value ≡ take size bytes

-- A sheet that was written is read back whole.
abbrev pub SheetReadsBack : Type 0
SheetReadsBack = (words : List ℕ) → AllBelow (2 ^ 28) words → sheet_of (bytes_of words) ≡ record { words = words; ending = whole }

-- A whole sheet that was read is written as it was.
abbrev pub SheetWritesBack : Type 0
SheetWritesBack = (bytes : List ℕ) → AllBelow 256 bytes → (sheet_of bytes).ending ≡ whole → bytes_of (sheet_of bytes).words ≡ bytes

-- Every word of a sheet has a form.
abbrev pub WordsHaveForms : Type 0
WordsHaveForms = (bytes : List ℕ) → AllBelow 256 bytes → AllBelow (2 ^ 28) (sheet_of bytes).words
