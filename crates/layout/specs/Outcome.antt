-- Loading: what the checks of a table and of its servers' demands come to.
use Rattle.std.specs.Prelude.{List, [], ◌∷◌, ℕ, length, Result, Ok, Err}
use Rattle.outcomes.specs.Outcome.{Outcome, accepted, refused, Reason, unless}
use Rattle.outcomes.specs.Part.{when_good}
use Rattle.rooms.specs.Table.{Room, room_cords}
use Rattle.rooms.specs.Limits.{checked}
use Rattle.rooms.specs.Outcome.{sheet_refusal_number, sheet_refusal_place}
use Rattle.deals.specs.Plan.{count_differs, demand_too_large}
use Rattle.deals.specs.declared.PlanRefusal.{PlanRefusal}
use Rattle.deals.specs.declared.PlanRefusal.TheVariants as planned
use Rattle.layout.specs.declared.room.Counts.{Counts}
use Rattle.layout.specs.declared.room.LoadRefusal.{LoadRefusal}
use Rattle.layout.specs.declared.room.LoadRefusal.TheVariants.{Table, DemandCount, DemandTooLarge}

-- What loading comes to: a room, or a refusal.
abbrev pub LoadOutcome : Type 0
LoadOutcome = Outcome Room LoadRefusal

-- The reasons to refuse the demands of a good room, in their order (10, 11).
abbrev pub load_reasons : Room → List ℕ → List (Reason LoadRefusal)
load_reasons r demands = count_differs DemandCount r demands ∷ demand_too_large DemandTooLarge demands ∷ []

-- The room of a table with its servers' demands: the table's refusals (4 to 9) stand.
unfoldable pub loading : (table demands : List ℕ) → LoadOutcome
unfolding unless checked
loading table demands = when_good Table (checked table 0) (λ r. unless (load_reasons r demands) r)

-- What a caller needs to know of a room beside its lists.
abbrev pub counts_of : Room → Counts
counts_of r = record { nodes = length r.nodes; servers = length r.servers; cords = room_cords r; scale = r.scale }

-- The answer to an outcome.
abbrev pub loaded_of : LoadOutcome → Result Counts LoadRefusal
loaded_of (accepted r) = Ok (counts_of r)
loaded_of (refused refusal) = Err refusal

-- A refusal of the loading, as one of Plan's.
abbrev pub refusal_of : LoadRefusal → PlanRefusal
refusal_of (Table refusal) = planned.Table refusal
refusal_of (DemandCount place) = planned.DemandCount place
refusal_of (DemandTooLarge place) = planned.DemandTooLarge place

-- A refusal's number and its place: that of the table, the count of servers, or a demand's index.
abbrev pub load_refusal_number : LoadRefusal → ℕ
load_refusal_number (Table refusal) = sheet_refusal_number refusal
load_refusal_number (DemandCount place) = 10
load_refusal_number (DemandTooLarge place) = 11

abbrev pub load_refusal_place : LoadRefusal → ℕ
load_refusal_place (Table refusal) = sheet_refusal_place refusal
load_refusal_place (DemandCount place) = place
load_refusal_place (DemandTooLarge place) = place
