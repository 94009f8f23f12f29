-- The schedule of a text: its lines, judged one by one, and the room table that they give.
use Rattle.std.specs.Prelude.{Bool, cond, ◌&&◌, List, [], ◌∷◌, map, ℕ, zero, suc, ◌*◌, eqb, leb, ltb, length, Result, Ok, Err}
use Rattle.outcomes.specs.Outcome.{Outcome, accepted, refused, Reason, unless, too_short}
use Rattle.outcomes.specs.Part as outcomes
use Rattle.rooms.specs.Table.{Node, Room, most_nodes}
use Rattle.rooms.specs.Words as rooms
use Rattle.schedules.specs.Sizes.{is_size}
use Rattle.schedules.specs.Text.{Step, good, bad, malformed, line}
use Rattle.schedules.specs.declared.Entry.{Entry}
use Rattle.schedules.specs.declared.ScheduleRefusal.{ScheduleRefusal}
use Rattle.schedules.specs.declared.ScheduleRefusal.TheVariants.{NotALine, NotASize, OutOfRange, TableTooShort}

-- ---- Numbers and places

-- A refusal's number.
abbrev pub schedule_refusal_number : ScheduleRefusal → ℕ
schedule_refusal_number (NotALine place) = 24
schedule_refusal_number (NotASize place) = 25
schedule_refusal_number (OutOfRange place) = 26
schedule_refusal_number (TableTooShort place) = 12

-- A refusal's place: the line, counted from 0, or the length needed.
abbrev pub schedule_refusal_place : ScheduleRefusal → ℕ
schedule_refusal_place (NotALine place) = place
schedule_refusal_place (NotASize place) = place
schedule_refusal_place (OutOfRange place) = place
schedule_refusal_place (TableTooShort place) = place

-- An answer's number, 0 if accepted, and its figure: the word count, or the refusal's place.
abbrev pub schedule_number : Result ℕ ScheduleRefusal → ℕ
schedule_number (Ok count) = 0
schedule_number (Err refusal) = schedule_refusal_number refusal

abbrev pub schedule_figure : Result ℕ ScheduleRefusal → ℕ
schedule_figure (Ok count) = count
schedule_figure (Err refusal) = schedule_refusal_place refusal

-- ---- One line

-- The rating in watts.
abbrev pub rating : Entry → ℕ
rating e = e.amperes * e.volts

-- The range of volts.
abbrev pub least_volts : ℕ
least_volts = 100

abbrev pub most_volts : ℕ
most_volts = 480

-- Whether volts and parent are in range, for the line at a place. The line's node has the number place + 1, and its parent is 0
-- or a number below that. A line at place 512, a 513th, is out of range whatever it says.
unfoldable pub in_range : ℕ → Entry → Bool
in_range place e = (leb least_volts e.volts && leb e.volts most_volts) && (leb e.parent place && ltb place most_nodes)

-- What the line at a place comes to: an entry and where the next line starts, or a refusal.
abbrev pub Judgement : Type 0
Judgement = outcomes.Step ScheduleRefusal Entry

-- Refused in order: not of the form (24), amperes not a size (25), volts or parent out of range (26).
unfoldable pub judged : ℕ → Step Entry → Judgement
judged place (bad malformed) = bad (NotALine place)
judged place (good e next) =
    cond (is_size e.amperes)
    (cond (in_range place e) (good e next) (bad (OutOfRange place)))
    (bad (NotASize place))

-- ---- All lines

-- How the lines end: with the last byte of the text, or at a refusal.
pub data ScheduleEnding : Type 0 where
  whole : ScheduleEnding
  stopped : ScheduleRefusal → ScheduleEnding

-- The lines of a text: the entries in front, in order, and how they end.
pub record Lines : Type 0 where
  pub entries : List Entry
  pub ending : ScheduleEnding

-- A line, followed by the lines after it.
abbrev pub onto : Judgement → (ℕ → Lines) → Lines
onto (good e next) rest = record { entries = e ∷ (rest next).entries; ending = (rest next).ending }
onto (bad refusal) rest = record { entries = []; ending = stopped refusal }

-- At most so many lines, the first of which has a place among the lines and starts at a place of the text.
unfoldable pub lines_from : ℕ → List ℕ → ℕ → ℕ → Lines
lines_from zero text place at = record { entries = []; ending = whole }
lines_from (suc most) text place at =
    cond (leb (length text) at) (record { entries = []; ending = whole })
    (onto (judged place (line text at)) (λ next. lines_from most text (suc place) next))

-- All lines: a 513th is refused, so there is none after it to be judged.
abbrev pub lines_of : List ℕ → Lines
lines_of text = lines_from (suc most_nodes) text 0 0

-- ---- The table

-- The most words of a table without servers: version, count of nodes, two for each of 512, count of servers.
abbrev pub most_schedule_words : ℕ
most_schedule_words = 1027

-- The room of the entries: a node for each, with the percent of version 1, and no servers.
abbrev pub node_of : Entry → Node
node_of e = record { parent = e.parent; rating = rating e; percent = 80 }

abbrev pub room_of : List Entry → Room
room_of entries = record { scale = 1000; nodes = map node_of entries; servers = [] }

-- Its table in version 1.
abbrev pub table_of : List Entry → List ℕ
table_of entries = rooms.table_of 1 (room_of entries)

-- What a schedule comes to: accepted with the words of its table, or refused.
abbrev pub ScheduleOutcome : Type 0
ScheduleOutcome = Outcome (List ℕ) ScheduleRefusal

-- There are no lines.
abbrev pub no_lines : List Entry → Reason ScheduleRefusal
no_lines entries = record { holds = eqb (length entries) 0; refusal = OutOfRange 0 }

-- The table of lines. Refused: the first refusal of a line; no lines (26), at 0; the list too short (12), at the length needed.
abbrev pub scheduled_lines : List Entry → ScheduleEnding → ℕ → ScheduleOutcome
scheduled_lines entries whole words = unless (no_lines entries ∷ too_short TableTooShort words (length (table_of entries)) ∷ []) (table_of entries)
scheduled_lines entries (stopped refusal) words = refused refusal

-- The schedule of a text, for a list of so many words.
unfoldable pub scheduling : List ℕ → ℕ → ScheduleOutcome
scheduling text words = scheduled_lines (lines_of text).entries (lines_of text).ending words

-- The answer to an outcome.
abbrev pub answer_of : ScheduleOutcome → Result ℕ ScheduleRefusal
answer_of (accepted table) = Ok (length table)
answer_of (refused refusal) = Err refusal
