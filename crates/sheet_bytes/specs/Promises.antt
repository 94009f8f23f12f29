-- What the C calls of Read and of Write promise of each other, in bytes. Statements only; proofs/Promises.antt proves each:
-- `SheetWritesBack` as `sheet_writes_back`, and so on.
use Rattle.std.specs.Prelude.{◌≡◌, List, [], ◌∷◌, ℕ, ◌+◌, ◌*◌, ◌/◌, ◌≤◌, length, take, drop}
use Rattle.std.proofs.lemmas.List.Edits.{sets}
use Rattle.figures.specs.Bounds.{AllBelow}
use Rattle.sheet_bytes.specs.Call.{ReadCall, WriteCall}

-- The number that some bytes give, low byte first.
unfoldable pub number_of : List ℕ → ℕ
number_of [] = 0
number_of (byte ∷ bytes) = byte + 256 * number_of bytes

-- A call was accepted with a figure, as its caller sees it: it returned 1, the first eight bytes of the answer give 0, and
-- the next eight give the figure.
pub record Accepted (r : ℕ) (answer : List ℕ) (figure : ℕ) : Type 0 where
  pub returned : r ≡ 1
  pub number : number_of (take 8 answer) ≡ 0
  pub figure_is : number_of (take 8 (drop 8 answer)) ≡ figure

-- A sheet is read, and the words that were read are written to a copy that is no shorter than the sheet. That is accepted, and
-- the copy has the sheet at its front; its further bytes are unchanged.
abbrev pub SheetWritesBack : Type 0
SheetWritesBack =
    (sheet table answer : List ℕ) (r : ℕ) (table' answer' : List ℕ) (words : ℕ)
    → AllBelow 256 sheet → ReadCall sheet table answer r table' answer' → Accepted r answer' words
    → (copy answer₂ : List ℕ) (r₂ : ℕ) (copy' answer₂' : List ℕ) → length sheet ≤ length copy → 16 ≤ length answer₂
    → WriteCall (take (4 * words) table') copy answer₂ r₂ copy' answer₂'
    → Accepted r₂ answer₂' (length sheet) × (copy' ≡ sets copy 0 sheet)

-- A table is written, and the bytes that were written are read to a copy that is no shorter than the table. That is accepted,
-- and the copy has the bytes of the table's words at its front; its further bytes are unchanged.
abbrev pub TableReadsBack : Type 0
TableReadsBack =
    (table sheet answer : List ℕ) (r : ℕ) (sheet' answer' : List ℕ) (bytes : ℕ)
    → AllBelow 256 table → WriteCall table sheet answer r sheet' answer' → Accepted r answer' bytes
    → (copy answer₂ : List ℕ) (r₂ : ℕ) (copy' answer₂' : List ℕ) → length table ≤ length copy → 16 ≤ length answer₂
    → ReadCall (take bytes sheet') copy answer₂ r₂ copy' answer₂'
    → Accepted r₂ answer₂' (length table / 4) × (copy' ≡ sets copy 0 (take (4 * (length table / 4)) table))
