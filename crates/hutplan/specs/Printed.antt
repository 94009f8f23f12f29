-- What `hutplan` prints, by the bytes of its file and the text of its standard input.
use Rattle.std.specs.Prelude.{◌≡◌, List, ℕ, ◌+◌, ◌*◌, ◌≤◌, length, take}
use Rattle.rooms.specs.Part.{Step, good, bad}
use Rattle.rooms.specs.Table.{Room, most_servers, most_cords, most_words}
use Rattle.rooms.specs.Limits.{checked}
use Rattle.rooms.specs.Outcome.{SheetOutcome, reading, sheet_refusal_number, sheet_refusal_place}
use Rattle.outcomes.specs.Outcome.{accepted, refused}
use Rattle.deals.specs.Plan.{PlanOutcome, plan_room, most_lent, plan_refusal_number, plan_refusal_place}
use Rattle.demands.specs.Text.{most_lines, demands_of}
use Rattle.print.specs.Line.{refused_line}
use Rattle.print.specs.Print.{print_of}
use Rattle.hutplan.specs.Input.{most_bytes}

-- The most bytes that are printed (proofs/Fits): 27 of the first line, 26 of each server's and 69 of each cord's.
abbrev pub most_text : ℕ
most_text = 27 + 26 * most_servers + 69 * most_cords

-- The print of a room's plan.
abbrev pub room_text : Room → PlanOutcome → List ℕ
room_text room (accepted plan) = print_of plan.freed room.servers plan.caps plan.grants plan.headroom plan.held
room_text room (refused refusal) = refused_line (plan_refusal_number refusal) (plan_refusal_place refusal)

-- The print of what a table's check gives, with demands.
abbrev pub step_text : Step Room → List ℕ → List ℕ
step_text (good room end) demands = room_text room (plan_room room demands most_lent)
step_text (bad refusal) demands = refused_line (sheet_refusal_number refusal) (sheet_refusal_place refusal)

-- The print of a table with demands.
unfoldable pub table_text : List ℕ → List ℕ → List ℕ
table_text table demands = step_text (checked table 0) demands

-- The print of what Read comes to, with demands.
abbrev pub read_text : SheetOutcome → List ℕ → List ℕ
read_text (accepted table) demands = table_text table demands
read_text (refused refusal) demands = refused_line (sheet_refusal_number refusal) (sheet_refusal_place refusal)

-- The print of a sheet with demands.
unfoldable pub sheet_text : List ℕ → List ℕ → List ℕ
sheet_text sheet demands = read_text (reading sheet most_words) demands

-- The print of what was read into two buffers: so many bytes at the front of the sheet, and so many demands at the front of
-- their list.
abbrev pub input_text : List ℕ → ℕ → List ℕ → ℕ → List ℕ
input_text sheet bytes demands count = sheet_text (take bytes sheet) (take count demands)

-- What `hutplan` prints, of the first 32,768 bytes of its file and the demands of its standard input.
unfoldable pub printed : List ℕ → List ℕ → List ℕ
printed file input = sheet_text (take most_bytes file) (demands_of input)

-- What `hutplan` works in: space for 32,768 bytes of the file, for the demands of 513 lines, for the words of any table and for
-- any print.
abbrev pub Lent : List ℕ → List ℕ → List ℕ → List ℕ → Type 0
Lent sheet demands table buffer =
    (length sheet ≡ most_bytes) × (length demands ≡ most_lines) × (length table ≡ most_words) × (most_text ≤ length buffer)
