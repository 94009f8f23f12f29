-- The whole plan: the table's refusals, those of the demands and of the lists, and the answer.
use Rattle.std.specs.Prelude.{not, List, [], ◌∷◌, map, ℕ, suc, eqb, ltb, length, Result, Ok, Err}
use Rattle.outcomes.specs.Outcome.{Outcome, accepted, refused, Reason, unless, too_short}
use Rattle.figures.specs.Bounds.{first_not_below}
use Rattle.outcomes.specs.Part.{when_good}
use Rattle.rooms.specs.Part.{Step}
use Rattle.rooms.specs.Table.{Room, most_watts, most_servers, most_cords, room_cords}
use Rattle.rooms.specs.Limits.{checked}
use Rattle.rooms.specs.Outcome.{sheet_refusal_number, sheet_refusal_place}
use Rattle.deals.specs.SecondDeal.{freed, second_grants, caps}
use Rattle.deals.specs.Headroom.{headroom}
use Rattle.deals.specs.Held.{held}
use Rattle.deals.specs.declared.PlanList.{PlanList}
use Rattle.deals.specs.declared.PlanList.TheVariants.{Grants, Caps, Headroom, Held}
use Rattle.deals.specs.declared.Lengths.{Lengths}
use Rattle.deals.specs.declared.PlanRefusal.{PlanRefusal}
use Rattle.deals.specs.declared.PlanRefusal.TheVariants.{Table, DemandCount, DemandTooLarge, ListTooShort}

-- ---- Plans

-- A plan: the freed watts, a grant for each cord, a cap for each server, and for each cord its headroom and the node that holds it down
-- (0 for none).
pub record Plan : Type 0 where
  pub freed : ℕ
  pub grants : List ℕ
  pub caps : List ℕ
  pub headroom : List ℕ
  pub held : List ℕ

-- The plan of a room with its servers' demands.
abbrev pub plan_of : Room → List ℕ → Plan
plan_of r demands = record {
  freed = freed r demands;
  grants = second_grants r demands;
  caps = caps r demands;
  headroom = headroom r demands;
  held = held r demands;
}

-- What Plan comes to: a plan, or a refusal.
abbrev pub PlanOutcome : Type 0
PlanOutcome = Outcome Plan PlanRefusal

-- ---- Its lists

-- The lists that a plan is written to, by their names, in the order in which they are checked. What is said of each is said once, of any
-- name: they are told apart here, and where they are slices.
abbrev pub all_lists : List PlanList
all_lists = Grants ∷ Caps ∷ Headroom ∷ Held ∷ []

-- What a plan has for a list.
abbrev pub output : PlanList → Plan → List ℕ
output Grants = λ plan. plan.grants
output Caps = λ plan. plan.caps
output Headroom = λ plan. plan.headroom
output Held = λ plan. plan.held

-- How many entries it has, in a room of so many cords and servers, and in a given room.
abbrev pub count : (cords servers : ℕ) → PlanList → ℕ
count cords servers Grants = cords
count cords servers Caps = servers
count cords servers Headroom = cords
count cords servers Held = cords

abbrev pub count_in : Room → PlanList → ℕ
count_in r = count (room_cords r) (length r.servers)

-- The lengths of lists, each by its name, and the length of each.
abbrev pub lengths_of : (PlanList → ℕ) → Lengths
lengths_of entries = record { grants = entries Grants; caps = entries Caps; headroom = entries Headroom; held = entries Held }

abbrev pub entries : Lengths → PlanList → ℕ
entries lengths Grants = lengths.grants
entries lengths Caps = lengths.caps
entries lengths Headroom = lengths.headroom
entries lengths Held = lengths.held

-- A list for each name.
abbrev pub Lists : Type 0
Lists = PlanList → List ℕ

-- These, as they stand among the parameters of the operation and of the C call.
abbrev pub lists : (grants caps headroom held : List ℕ) → Lists
lists grants caps headroom held Grants = grants
lists grants caps headroom held Caps = caps
lists grants caps headroom held Headroom = headroom
lists grants caps headroom held Held = held

-- The lengths of the lists that are lent.
abbrev pub lent : Lists → Lengths
lent given = lengths_of (λ list. length (given list))

-- The lengths of lists that take the plan of every room.
abbrev pub most_lent : Lengths
most_lent = lengths_of (count most_cords most_servers)

-- ---- Refusals

-- The index of the first demand above the most watts; the count of demands if there is none.
abbrev pub first_too_large : List ℕ → ℕ
first_too_large demands = first_not_below (suc most_watts) demands

-- A reason to refuse a plan.
abbrev pub PlanReason : Type 0
PlanReason = Reason PlanRefusal

-- There is not a demand for each server (10). The refusal is that of the operation that has the demands.
abbrev pub count_differs : {R : Type 0} → (ℕ → R) → Room → List ℕ → Reason R
count_differs told r demands = record { holds = not (eqb (length demands) (length r.servers)); refusal = told (length r.servers) }

-- A demand is above the most watts (11).
abbrev pub demand_too_large : {R : Type 0} → (ℕ → R) → List ℕ → Reason R
demand_too_large told demands = record { holds = ltb (first_too_large demands) (length demands); refusal = told (first_too_large demands) }

-- A list is too short for a room of so many cords and servers.
abbrev pub list_too_short : (cords servers : ℕ) → Lengths → PlanList → PlanReason
list_too_short cords servers lengths list = too_short (ListTooShort list) (entries lengths list) (count cords servers list)

-- The reasons of this kind, in their order (12 and on).
abbrev pub list_reasons : (cords servers : ℕ) → Lengths → List PlanReason
list_reasons cords servers lengths = map (list_too_short cords servers lengths) all_lists

-- All reasons to refuse the plan of a good room, in their order (10 and on).
abbrev pub reasons : Room → List ℕ → Lengths → List PlanReason
reasons r demands lengths =
    count_differs DemandCount r demands
    ∷ demand_too_large DemandTooLarge demands
    ∷ list_reasons (room_cords r) (length r.servers) lengths

-- ---- Plan

-- The plan of a good room, in lists of given lengths.
unfoldable pub plan_room : Room → List ℕ → Lengths → PlanOutcome
unfolding unless first_not_below freed second_grants caps headroom held
plan_room r demands lengths = unless (reasons r demands lengths) (plan_of r demands)

-- The plan of what the table's check gives: its refusals (4 to 9) stand.
abbrev pub plan_step : Step Room → List ℕ → Lengths → PlanOutcome
plan_step step demands lengths = when_good Table step (λ room. plan_room room demands lengths)

-- Plan: a table, a demand list, and the lengths of the lists that are lent.
unfoldable pub plan : List ℕ → List ℕ → Lengths → PlanOutcome
unfolding plan_room checked
plan table demands lengths = plan_step (checked table 0) demands lengths

-- ---- What the caller sees

-- The answer to an outcome: the freed watts, or why the plan is refused.
abbrev pub answer_of : PlanOutcome → Result ℕ PlanRefusal
answer_of (accepted plan) = Ok plan.freed
answer_of (refused refusal) = Err refusal

-- ---- Numbers and places

-- The number of the refusal where a list is too short.
abbrev pub plan_list_number : PlanList → ℕ
plan_list_number Grants = 12
plan_list_number Caps = 13
plan_list_number Headroom = 14
plan_list_number Held = 15

-- A refusal's number.
abbrev pub plan_refusal_number : PlanRefusal → ℕ
plan_refusal_number (Table refusal) = sheet_refusal_number refusal
plan_refusal_number (DemandCount place) = 10
plan_refusal_number (DemandTooLarge place) = 11
plan_refusal_number (ListTooShort list place) = plan_list_number list

-- A refusal's place.
abbrev pub plan_refusal_place : PlanRefusal → ℕ
plan_refusal_place (Table refusal) = sheet_refusal_place refusal
plan_refusal_place (DemandCount place) = place
plan_refusal_place (DemandTooLarge place) = place
plan_refusal_place (ListTooShort list place) = place

-- An answer's number, 0 if accepted, and its figure: the freed watts, or the refusal's place.
abbrev pub plan_number : Result ℕ PlanRefusal → ℕ
plan_number (Ok freed) = 0
plan_number (Err refusal) = plan_refusal_number refusal

abbrev pub plan_figure : Result ℕ PlanRefusal → ℕ
plan_figure (Ok freed) = freed
plan_figure (Err refusal) = plan_refusal_place refusal
