-- The C call: what it returns and leaves in every byte of every buffer, for every length.
--
-- A word is four bytes of its list, the lowest first. Where a length is no multiple of four, the last bytes belong to no word.
use Rattle.std.specs.Prelude.{List, [], ◌∷◌, ℕ, ◌/◌, length}
use Rattle.words.specs.Bytes.{bytes_of}
use Rattle.calls.specs.Call.{OutcomeCall}
use Rattle.schedules.specs.Schedule.{ScheduleOutcome, scheduling, answer_of, schedule_number, schedule_figure}

-- The numbers of the answer to an outcome: its number, and its figure.
abbrev pub numbers_of : ScheduleOutcome → List ℕ
numbers_of outcome = schedule_number (answer_of outcome) ∷ schedule_figure (answer_of outcome) ∷ []

-- A schedule, called from C: the table holds a word for every four of its bytes.
abbrev pub ScheduleCall : (text table answer : List ℕ) (r : ℕ) (table' answer' : List ℕ) → Type 0
ScheduleCall text table answer r table' answer' =
    OutcomeCall 2 numbers_of bytes_of (scheduling text (length table / 4)) table answer r table' answer'
