-- What the private functions tell. No public contract rests on these.
use Rattle.std.specs.Prelude.{◌≡◌, List, ℕ, length, take, Option, Some, None, Result, Ok, Err}
use Rattle.outcomes.specs.Outcome as outcomes
use Rattle.schedules.specs.Text.{Step, good, bad, malformed}
use Rattle.schedules.specs.Schedule.{Judgement, ScheduleEnding, whole, stopped, Lines, ScheduleOutcome}
use Rattle.schedules.specs.declared.Entry.{Entry}
use Rattle.schedules.specs.declared.ScheduleRefusal.{ScheduleRefusal}

-- What a part of a text gives, and the place after it.
abbrev pub told : {A : Type 0} → Step A → Option (A × ℕ)
told (good value next) = Some (value, next)
told (bad malformed) = None

-- A line's entry and the place after the line, or its refusal.
abbrev pub told_judgement : Judgement → Result (Entry × ℕ) ScheduleRefusal
told_judgement (good e next) = Ok (e, next)
told_judgement (bad refusal) = Err refusal

-- The count of lines, or the first refusal.
abbrev pub counted : ℕ → ScheduleEnding → Result ℕ ScheduleRefusal
counted count whole = Ok count
counted count (stopped refusal) = Err refusal

abbrev pub told_lines : Lines → Result ℕ ScheduleRefusal
told_lines l = counted (length l.entries) l.ending

-- What is written to the list: the table, or nothing.
abbrev pub written : ScheduleOutcome → List ℕ
written = outcomes.written (λ words. words)

-- What is written stands at the front of a list.
pub record InFront (outcome : ScheduleOutcome) (list : List ℕ) : Type 0 where
  pub is : take (length (written outcome)) list ≡ written outcome
