-- What is promised of Join, apart from any code. proofs/Promises.antt proves each: `JoinGivesRoom` as `join_gives_room`, and so on.
use Rattle.std.specs.Prelude.{◌≡◌, List, ◌++◌, ℕ, ◌+◌, ◌≤◌, length}
use Rattle.outcomes.specs.Outcome.{accepted, refused}
use Rattle.figures.specs.Figures.{at}
use Rattle.rooms.specs.Part.{good}
use Rattle.rooms.specs.Table.{Room}
use Rattle.rooms.specs.Limits.{checked}
use Rattle.rooms.specs.Words.{table_of}
use Rattle.deals.specs.SecondDeal.{first_grants}
use Rattle.deals.specs.Plan.{Plan, count_in, entries, plan}
use Rattle.deals.specs.declared.Lengths.{Lengths}
use Rattle.deals.specs.declared.PlanList.{PlanList}
use Rattle.deals.specs.declared.PlanRefusal.TheVariants.{DemandCount, DemandTooLarge}
use Rattle.join.specs.Joined.{joined, joined_plan}
use Rattle.join.specs.Outcome.{joining}

-- ---- The joined table

-- Two tables that Join accepts, for an output of some length, with the rooms of both and the table that it gives.
pub record AcceptedJoin : Type 0 where
  pub first : List ℕ
  pub second : List ℕ
  pub entries : ℕ
  pub table : List ℕ
  pub is_table : joining first second entries ≡ accepted table
  pub one : Room
  pub one_end : ℕ
  pub is_one : checked first 0 ≡ good one one_end
  pub two : Room
  pub two_end : ℕ
  pub is_two : checked second 0 ≡ good two two_end

-- The table is that of the room of both, and passes every check as such.
pub record JoinedTable (j : AcceptedJoin) : Type 0 where
  pub words : j.table ≡ table_of (at j.first 0) (joined j.one j.two)
  pub checks : checked j.table 0 ≡ good (joined j.one j.two) (length j.table)

abbrev pub JoinGivesRoom : Type 0
JoinGivesRoom = (j : AcceptedJoin) → JoinedTable j

-- ---- The plan of the joined table

-- Lists that are long enough for the plan of a room.
abbrev pub Ample : Room → Lengths → Type 0
Ample r lengths = (list : PlanList) → count_in r list ≤ entries lengths list

-- Plan of the joined table, with demands for both in order. Where it accepts those of each table, it accepts both, with lists that are long
-- enough, and each list of the first's plan is followed by that of the second's; held nodes of the second are raised, 0 staying 0, and freed
-- adds up. The refusals of demands: a count other than both together (10); the first's demand that is too large, at its place (11); the
-- second's, where the first has none, behind all of the first's.
pub record PlansJoined (j : AcceptedJoin) : Type 0 where
  pub planned : (d e : List ℕ) (ours theirs lengths : Lengths) (p q : Plan)
      → plan j.first d ours ≡ accepted p → plan j.second e theirs ≡ accepted q → Ample (joined j.one j.two) lengths
      → plan j.table (d ++ e) lengths ≡ accepted (joined_plan (length j.one.nodes) p q)
  pub counted : (demands : List ℕ) (lengths : Lengths)
      → (length demands ≡ length j.one.servers + length j.two.servers → ⊥)
      → plan j.table demands lengths ≡ refused (DemandCount (length j.one.servers + length j.two.servers))
  pub first_too_large : (d e : List ℕ) (ours lengths : Lengths) (i : ℕ)
      → plan j.first d ours ≡ refused (DemandTooLarge i) → length e ≡ length j.two.servers
      → plan j.table (d ++ e) lengths ≡ refused (DemandTooLarge i)
  pub second_too_large : (d e : List ℕ) (ours theirs lengths : Lengths) (p : Plan) (i : ℕ)
      → plan j.first d ours ≡ accepted p → plan j.second e theirs ≡ refused (DemandTooLarge i)
      → plan j.table (d ++ e) lengths ≡ refused (DemandTooLarge (length j.one.servers + i))

abbrev pub JoinPlansBoth : Type 0
JoinPlansBoth = (j : AcceptedJoin) → PlansJoined j

-- The first deal too: its grants are the first's followed by the second's.
abbrev pub FirstGrantsJoin : Type 0
FirstGrantsJoin = (j : AcceptedJoin) (d e : List ℕ) → length d ≡ length j.one.servers
    → first_grants (joined j.one j.two) (d ++ e) ≡ first_grants j.one d ++ first_grants j.two e
