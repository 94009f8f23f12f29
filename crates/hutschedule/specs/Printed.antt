-- What `hutschedule` writes, by the text of its standard input.
use Rattle.std.specs.Prelude.{◌≡◌, Bool, true, false, List, ℕ, ◌≤◌, length, take, Result, Ok, Err}
use Rattle.numbers.specs.Sheet.{bytes_of}
use Rattle.print.specs.Line.{refused_line}
use Rattle.outcomes.specs.Outcome.{accepted, refused}
use Rattle.schedules.specs.Schedule.{ScheduleOutcome, most_schedule_words, schedule_refusal_number, schedule_refusal_place, scheduling}

-- The most bytes of standard input that are read: 514 lines of 15 bytes. The first 513 lines decide (`FirstBytesDecide`).
abbrev pub most_input : ℕ
most_input = 7710

-- Enough for the sheet of any table without servers, four bytes a word, and for any refusal.
abbrev pub most_output : ℕ
most_output = 4108

-- What is written: some bytes, to standard error if refused, else to standard output; to the other nothing.
pub record Print : Type 0 where
  pub refused : Bool
  pub bytes : List ℕ

-- Accepted: the sheet of the table. Refused: `refused R at P`.
abbrev pub print_of : ScheduleOutcome → Print
print_of (accepted table) = record { refused = false; bytes = bytes_of table }
print_of (refused refusal) = record { refused = true; bytes = refused_line (schedule_refusal_number refusal) (schedule_refusal_place refusal) }

-- What is written of a text.
unfoldable pub printed : List ℕ → Print
printed text = print_of (scheduling text most_schedule_words)

-- What an answer says is written, with the buffer that it speaks of: so many bytes from its front.
abbrev pub at : Result ℕ ℕ → List ℕ → Print
at (Ok count) buffer = record { refused = false; bytes = take count buffer }
at (Err count) buffer = record { refused = true; bytes = take count buffer }

-- How many bytes that is.
abbrev pub count_of : Result ℕ ℕ → ℕ
count_of (Ok count) = count
count_of (Err count) = count

-- What `hutschedule` works in: space for 7,710 bytes of standard input, for the words of any table without servers and for all that
-- is written.
abbrev pub Lent : List ℕ → List ℕ → List ℕ → Type 0
Lent text table buffer = (length text ≡ most_input) × (length table ≡ most_schedule_words) × (most_output ≤ length buffer)
