-- What is promised of a room parted in two. proofs/Promises.antt proves each: `JoinedParts` as `joined_parts`, and so on.
use Rattle.std.specs.Prelude.{◌≡◌, List, ◌++◌, ℕ, ◌≤◌, ◌<◌, length, take, drop}
use Rattle.outcomes.specs.Outcome.{accepted}
use Rattle.figures.specs.Figures.{at}
use Rattle.rooms.specs.Part.{good}
use Rattle.rooms.specs.Table.{Room}
use Rattle.rooms.specs.Limits.{checked}
use Rattle.rooms.specs.Words.{table_of}
use Rattle.deals.specs.Plan.{Plan, plan}
use Rattle.deals.specs.declared.Lengths.{Lengths}
use Rattle.join.specs.Joined.{joined, joined_plan}
use Rattle.join.specs.Outcome.{joining}
use Rattle.join.specs.Promises.{AcceptedJoin, Ample}
use Rattle.part.specs.Parted.{front, back, Uncrossed}
use Rattle.part.specs.Outcome.{Parts, parts_of, parting}

-- A joined room, parted at its first half's counts, gives both halves.
pub record PartsOfJoined (r q : Room) : Type 0 where
  pub first : front (length r.nodes) (length r.servers) (joined r q) ≡ r
  pub second : back (length r.nodes) (length r.servers) (joined r q) ≡ q

abbrev pub JoinedParts : Type 0
JoinedParts = (r q : Room) → q.scale ≡ r.scale → PartsOfJoined r q

-- A good table and a cut that leaves a node to each part, is within its servers, and is not crossed.
pub record Cut (w : List ℕ) (nodes servers : ℕ) : Type 0 where
  pub room : Room
  pub end : ℕ
  pub is_room : checked w 0 ≡ good room end
  pub some : 1 ≤ nodes
  pub others : nodes < length room.nodes
  pub within : servers ≤ length room.servers
  pub uncrossed : Uncrossed nodes servers room

-- The tables of both parts pass every check as those rooms, and the parts joined are the whole.
pub record GoodParts (w : List ℕ) (nodes servers : ℕ) (cut : Cut w nodes servers) : Type 0 where
  pub first : checked (table_of (at w 0) (front nodes servers cut.room)) 0
      ≡ good (front nodes servers cut.room) (length (table_of (at w 0) (front nodes servers cut.room)))
  pub second : checked (table_of (at w 0) (back nodes servers cut.room)) 0
      ≡ good (back nodes servers cut.room) (length (table_of (at w 0) (back nodes servers cut.room)))
  pub again : joined (front nodes servers cut.room) (back nodes servers cut.room) ≡ cut.room

abbrev pub PartsAreGood : Type 0
PartsAreGood = (w : List ℕ) (nodes servers : ℕ) (cut : Cut w nodes servers) → GoodParts w nodes servers cut

-- ---- The operation

-- A table that Part accepts at two counts, for outputs of some lengths, with its room and the parts that it gives.
pub record AcceptedPart : Type 0 where
  pub table : List ℕ
  pub nodes : ℕ
  pub servers : ℕ
  pub first_entries : ℕ
  pub second_entries : ℕ
  pub parts : Parts
  pub is_parts : parting table nodes servers first_entries second_entries ≡ accepted parts
  pub room : Room
  pub end : ℕ
  pub is_room : checked table 0 ≡ good room end

-- The parts are the tables of both sides of a cut that no link crosses. Both pass every check, and joined, in a list that is long enough,
-- they are the table again, word for word.
pub record PartsGiven (p : AcceptedPart) : Type 0 where
  pub words : p.parts ≡ parts_of (at p.table 0) p.nodes p.servers p.room
  pub uncrossed : Uncrossed p.nodes p.servers p.room
  pub first : checked p.parts.first 0 ≡ good (front p.nodes p.servers p.room) (length p.parts.first)
  pub second : checked p.parts.second 0 ≡ good (back p.nodes p.servers p.room) (length p.parts.second)
  pub again : (entries : ℕ) → length p.table ≤ entries → joining p.parts.first p.parts.second entries ≡ accepted p.table

abbrev pub PartGivesParts : Type 0
PartGivesParts = (p : AcceptedPart) → PartsGiven p

-- A joined table, parted at its first half's counts, gives both tables, word for word, where the outputs are long enough.
abbrev pub PartsJoined : Type 0
PartsJoined = (j : AcceptedJoin) (first second : ℕ) → length j.first ≤ first → length j.second ≤ second
    → parting j.table (length j.one.nodes) (length j.one.servers) first second ≡ accepted (record { first = j.first; second = j.second })

-- The plans of the parts are the parts of the plan: where both are accepted, with demands of their own, that of the table with the demands
-- of both in order is accepted with lists that are long enough, and has the first's lists followed by the second's.
abbrev pub PartPlansBoth : Type 0
PartPlansBoth = (p : AcceptedPart) (d e : List ℕ) (ours theirs lengths : Lengths) (q t : Plan)
    → plan p.parts.first d ours ≡ accepted q → plan p.parts.second e theirs ≡ accepted t → Ample p.room lengths
    → plan p.table (d ++ e) lengths ≡ accepted (joined_plan p.nodes q t)

-- The other way round: the plan of a table is made up of its parts' plans, each with the demands of its own servers, which are accepted with
-- lists that are long enough.
pub record PlansParted (p : AcceptedPart) (demands : List ℕ) (ours theirs : Lengths) (whole : Plan) : Type 0 where
  pub first : Plan
  pub second : Plan
  pub is_first : plan p.parts.first (take p.servers demands) ours ≡ accepted first
  pub is_second : plan p.parts.second (drop p.servers demands) theirs ≡ accepted second
  pub is_whole : whole ≡ joined_plan p.nodes first second

abbrev pub PlanOfParts : Type 0
PlanOfParts = (p : AcceptedPart) (demands : List ℕ) (lengths ours theirs : Lengths) (whole : Plan)
    → plan p.table demands lengths ≡ accepted whole
    → Ample (front p.nodes p.servers p.room) ours → Ample (back p.nodes p.servers p.room) theirs
    → PlansParted p demands ours theirs whole
