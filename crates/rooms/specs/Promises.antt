-- What holds of Read, of Write and of the table's check, apart from any code.
-- proofs/Promises.antt proves each: `RefusalNine` as `refusal_nine`, and so on.
use Rattle.std.specs.Prelude.{◌≡◌, Result, List, ◌↔◌, ℕ, suc, ◌-◌, ◌≤◌, ◌<◌, length}
use Rattle.figures.specs.Bounds.{AllBelow}
use Rattle.numbers.specs.Sheet.{whole, sheet_of}
use Rattle.rooms.specs.Part.{good, Good}
use Rattle.rooms.specs.Table.{Room, most_words, table}
use Rattle.rooms.specs.Limits.{limit, node_at, lows_beneath, checked}
use Rattle.figures.specs.Figures.{at}
use Rattle.rooms.specs.Words.{table_of, RoomInRange}
use Rattle.outcomes.specs.Outcome.{accepted}
use Rattle.rooms.specs.Outcome.{answer_of, sheet_number, sheet_figure, reading, reading_first, writing}
use Rattle.rooms.specs.declared.SheetRefusal.{SheetRefusal}

-- ---- The table of a room

-- A good table is that of its room, in its version, and the room's figures are in range.
abbrev pub GoodTableOfRoom : Type 0
GoodTableOfRoom = (w : List ℕ) (r : Room) (j : ℕ) → table w 0 ≡ good r j → (w ≡ table_of (at w 0) r) × RoomInRange (at w 0) r

-- The table of a room whose figures are in range is read back as that room.
abbrev pub RoomReadsBack : Type 0
RoomReadsBack = (version : ℕ) (r : Room) → RoomInRange version r → table (table_of version r) 0 ≡ good r (length (table_of version r))

-- ---- Refusal 9

-- Whether n is the number of a node. Its place is n - 1.
abbrev pub IsNode : Room → ℕ → Type 0
IsNode r n = (1 ≤ n) × (n ≤ length r.nodes)

-- The lows beneath node n exceed its limit, or sum to no more than it.
abbrev pub Exceeds : Room → ℕ → Type 0
Exceeds r n = limit (node_at r (n - 1)) < lows_beneath r (n - 1)

abbrev pub Within : Room → ℕ → Type 0
Within r n = lows_beneath r (n - 1) ≤ limit (node_at r (n - 1))

-- n is the lowest node whose limit the lows beneath it exceed.
pub record LowestExceeding (r : Room) (n : ℕ) : Type 0 where
  pub node : IsNode r n
  pub exceeds : Exceeds r n
  pub lowest : (m : ℕ) → IsNode r m → m < n → Within r m

-- The words w, all of them, are a good table, and n is the lowest node of its room whose limit the lows beneath it exceed.
pub record Overloaded (w : List ℕ) (n : ℕ) : Type 0 where
  pub room : Room
  pub end : ℕ
  pub is_table : table w 0 ≡ good room end
  pub lowest : LowestExceeding room n

-- The answer is refusal 9, at place n.
abbrev pub IsNine : Result ℕ SheetRefusal → ℕ → Type 0
IsNine answer n = (sheet_number answer ≡ 9) × (sheet_figure answer ≡ n)

-- Refusal 9 comes exactly when the lows beneath some node exceed its limit, and names the lowest such node: in Write, and in
-- Read where all bytes of the sheet are good. Where there is no such node, a good table passes the check.
pub record RefusalNine : Type 0 where
  pub write : (w : List ℕ) (bytes n : ℕ) → IsNine (answer_of (writing w bytes)) n ↔ Overloaded w n
  pub read : (sheet : List ℕ) (words n : ℕ)
      → IsNine (answer_of (reading sheet words)) n ↔ (((sheet_of sheet).ending ≡ whole) × Overloaded (sheet_of sheet).words n)
  pub passed : (w : List ℕ) (r : Room) (j : ℕ) → table w 0 ≡ good r j
      → ((n : ℕ) → IsNode r n → Within r n) → checked w 0 ≡ good r j

-- ---- Read and Write

-- Reading a written sheet returns its table, to any list that is long enough.
abbrev pub TableReadsBack : Type 0
TableReadsBack = (table sheet : List ℕ) (bytes words : ℕ)
    → writing table bytes ≡ accepted sheet → length table ≤ words → reading sheet words ≡ accepted table

-- Writing a read sheet returns its bytes, to any buffer that is long enough.
abbrev pub SheetWritesBack : Type 0
SheetWritesBack = (sheet table : List ℕ) (words bytes : ℕ)
    → AllBelow 256 sheet → reading sheet words ≡ accepted table → length sheet ≤ bytes
    → writing table bytes ≡ accepted sheet

-- A table that Read gives passes every check of a table.
abbrev pub ReadIsChecked : Type 0
ReadIsChecked = (sheet table : List ℕ) (words : ℕ) → reading sheet words ≡ accepted table → Good (checked table 0)

-- Read by way of a list of one word more than a table may have, or longer, is Read: no later word of a sheet changes an answer.
abbrev pub FirstWordsDecide : Type 0
FirstWordsDecide = (taken : ℕ) (sheet : List ℕ) (words : ℕ) → suc most_words ≤ taken → reading_first taken sheet words ≡ reading sheet words
