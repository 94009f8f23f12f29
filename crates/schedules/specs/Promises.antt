-- What holds of a schedule, apart from any code.
-- proofs/Promises.antt proves each: `SizesRise` as `sizes_rise`, and so on.
use Rattle.std.specs.Prelude.{◌≡◌, true, false, List, [], ◌↔◌, ◌⊎◌, ℕ, ◌-◌, ◌≤◌, ◌<◌, length, get_or, take}
use Rattle.numbers.specs.Sheet.{bytes_of}
use Rattle.rooms.specs.Part.{good}
use Rattle.rooms.specs.Table.{Room}
use Rattle.rooms.specs.Limits.{node_at, checked}
use Rattle.outcomes.specs.Outcome.{accepted}
use Rattle.rooms.specs.Outcome.{writing}
use Rattle.schedules.specs.Sizes.{sizes, is_size}
use Rattle.schedules.specs.Schedule.{rating, in_range, whole, lines_of, table_of, ScheduleOutcome, scheduling, answer_of, schedule_number}
use Rattle.schedules.specs.Schedule.{schedule_figure}
use Rattle.schedules.specs.Written.{Written, LinesPass, LineFirst, LinesFirst}
use Rattle.schedules.specs.declared.Entry.{Entry}

-- ---- The sizes

-- There are 37 sizes, and they rise.
pub record SizesRise : Type 0 where
  pub count : length sizes ≡ 37
  pub rise : (i j : ℕ) → i < j → j < length sizes → get_or sizes i 0 < get_or sizes j 0

-- Amperes stand in the table, at a place.
pub record InTable (amperes : ℕ) : Type 0 where
  pub place : ℕ
  pub within : place < length sizes
  pub is : get_or sizes place 0 ≡ amperes

-- Amperes are a size exactly when they stand in the table.
abbrev pub SizesAreTheTable : Type 0
SizesAreTheTable = (amperes : ℕ) → (is_size amperes ≡ true) ↔ InTable amperes

-- ---- The text

-- A text that is accepted is the lines of its entries, written in decimal, and nothing else; each of them passes at its place.
pub record WrittenText (text : List ℕ) : Type 0 where
  pub lines : Written (lines_of text).entries text
  pub pass : LinesPass 0 (lines_of text).entries

abbrev pub AcceptedIsWritten : Type 0
AcceptedIsWritten = (text table : List ℕ) (words : ℕ) → scheduling text words ≡ accepted table → WrittenText text

-- Every text that is written so is read: its lines are those entries, and end with the text.
abbrev pub WrittenIsRead : Type 0
WrittenIsRead = (entries : List Entry) (text : List ℕ) → Written entries text → LinesPass 0 entries
    → lines_of text ≡ record { entries = entries; ending = whole }

-- ---- Answers

-- An outcome's answer has this number and this figure.
abbrev pub Tells : ScheduleOutcome → ℕ → ℕ → Type 0
Tells outcome number figure = (schedule_number (answer_of outcome) ≡ number) × (schedule_figure (answer_of outcome) ≡ figure)

-- All of the text is lines that pass, at least one, whose table has so many words.
pub record AllLines (text : List ℕ) (needed : ℕ) : Type 0 where
  pub entries : List Entry
  pub lines : Written entries text
  pub pass : LinesPass 0 entries
  pub some : 1 ≤ length entries
  pub needs : length (table_of entries) ≡ needed

-- Behind so many lines that pass, the text goes on, with no line.
pub record NoLineAt (text : List ℕ) (place : ℕ) : Type 0 where
  pub rest : List ℕ
  pub front : LinesFirst place text rest
  pub more : 1 ≤ length rest
  pub none : (e : Entry) → LineFirst e rest → ⊥

-- Behind so many lines that pass comes a line whose amperes are no size.
pub record NoSizeAt (text : List ℕ) (place : ℕ) : Type 0 where
  pub rest : List ℕ
  pub front : LinesFirst place text rest
  pub entry : Entry
  pub line : LineFirst entry rest
  pub other : is_size entry.amperes ≡ false

-- Behind so many lines that pass comes a line with a size, whose volts or parent are out of range there, or which is a 513th.
pub record OutOfRangeAt (text : List ℕ) (place : ℕ) : Type 0 where
  pub rest : List ℕ
  pub front : LinesFirst place text rest
  pub entry : Entry
  pub line : LineFirst entry rest
  pub size : is_size entry.amperes ≡ true
  pub out : in_range place entry ≡ false

-- Each answer comes exactly where it is due: 24, 25 or 26 at the first line that does not pass, by what it is; 26 at 0 of a text without
-- lines; else 12 where the list is shorter than the table, at the table's length; else acceptance, with that length.
pub record AnsweredExactly : Type 0 where
  pub no_line : (text : List ℕ) (words place : ℕ) → Tells (scheduling text words) 24 place ↔ NoLineAt text place
  pub no_size : (text : List ℕ) (words place : ℕ) → Tells (scheduling text words) 25 place ↔ NoSizeAt text place
  pub out_of_range : (text : List ℕ) (words place : ℕ) → Tells (scheduling text words) 26 place
      ↔ (OutOfRangeAt text place ⊎ ((text ≡ []) × (place ≡ 0)))
  pub list-short : (text : List ℕ) (words needed : ℕ) → Tells (scheduling text words) 12 needed ↔ (AllLines text needed × (words < needed))
  pub accepted : (text : List ℕ) (words needed : ℕ) → Tells (scheduling text words) 0 needed ↔ (AllLines text needed × (needed ≤ words))

-- ---- The table of an accepted schedule

-- What the line at a place says.
abbrev pub entry_at : List ℕ → ℕ → Entry
entry_at text place = get_or (lines_of text).entries place (record { parent = 0; amperes = 0; volts = 0 })

-- The table of a text is good: it passes every check of a room table, and Write accepts it for any buffer that is long enough.
-- Its room has a node for each line and no servers: node n has the parent of line n - 1, and that line's amperes × volts for its
-- rating.
pub record ScheduledRoom (text table : List ℕ) : Type 0 where
  pub room : Room
  pub end : ℕ
  pub checks : checked table 0 ≡ good room end
  pub writes : (bytes : ℕ) → length (bytes_of table) ≤ bytes → writing table bytes ≡ accepted (bytes_of table)
  pub servers : room.servers ≡ []
  pub nodes : length room.nodes ≡ length (lines_of text).entries
  pub parent : (n : ℕ) → 1 ≤ n → n ≤ length room.nodes → (node_at room (n - 1)).parent ≡ (entry_at text (n - 1)).parent
  pub rated : (n : ℕ) → 1 ≤ n → n ≤ length room.nodes → (node_at room (n - 1)).rating ≡ rating (entry_at text (n - 1))

abbrev pub ScheduleGivesRoom : Type 0
ScheduleGivesRoom = (text table : List ℕ) (words : ℕ) → scheduling text words ≡ accepted table → ScheduledRoom text table

-- ---- How much of a text decides

-- The longest line has 15 bytes, and a 513th line is refused: the bytes of 513 such lines decide every answer.
abbrev pub deciding_bytes : ℕ
deciding_bytes = 7695

abbrev pub FirstBytesDecide : Type 0
FirstBytesDecide = (taken : ℕ) (text : List ℕ) (words : ℕ) → deciding_bytes ≤ taken → scheduling (take taken text) words ≡ scheduling text words
