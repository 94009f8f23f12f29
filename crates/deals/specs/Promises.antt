-- All that documents 01 and 02 ask to hold of plans and of judged lists, in their order, whatever the table and the demands. Statements
-- only; proofs/Promises.antt proves each: `FirstKept` as `first_kept`, and so on. (Of Read and Write, of splits and of the other
-- operations, the file of this name in their crate; crates/promises has all of them in one record.)
use Rattle.std.specs.Prelude.{◌≡◌, true, false, List, map, ◌↔◌, ℕ, suc, ◌+◌, ◌-◌, ◌≤◌, ◌<◌, length, Result}
use Rattle.rooms.specs.Part.{good, Good}
use Rattle.rooms.specs.Table.{Room, highest_rank, room_cords, table}
use Rattle.rooms.specs.Trees.{beneath}
use Rattle.rooms.specs.Limits.{limit, node_at, checked}
use Rattle.rooms.specs.Promises.{IsNode, Overloaded}
use Rattle.rooms.specs.Versions.{second_version, third_version}
use Rattle.figures.specs.Figures.{total, at, cell, sum_of}
use Rattle.rooms.specs.Cords.{server_at, rank_of}
use Rattle.deals.specs.Wants.{needs, first_wants}
use Rattle.rooms.specs.Lists.{carried_by, lows_of}
use Rattle.deals.specs.Metrics.{Deal, metrics, at_level, excess, cord_excess}
use Rattle.deals.specs.Dealing.{Child, node, cord, children, part_of, granted}
use Rattle.deals.specs.SecondDeal.{first_deal, second_deal, first_grants, first_usable, first_used, second_wants}
use Rattle.deals.specs.Headroom.{ceilings_of, root_headroom}
use Rattle.deals.specs.Held.{cut_from}
use Rattle.outcomes.specs.Outcome.{accepted}
use Rattle.deals.specs.Plan.{Plan, plan_of, output, count_in, plan, answer_of, plan_number, plan_figure}
use Rattle.deals.specs.Ways.{Root, Way, cord_beneath, watts_beneath, from_rank}
use Rattle.deals.specs.declared.Lengths.{Lengths}
use Rattle.deals.specs.declared.PlanList.{PlanList}
use Rattle.deals.specs.Judge.{verdict}
use Rattle.deals.specs.declared.PlanRefusal.{PlanRefusal}
use Rattle.deals.specs.declared.Verdict.{Verdict}
use Rattle.deals.specs.declared.Verdict.TheVariants.{Passes, BelowLow, AboveWant, OverLimit, Short}

-- A table and a demand list that Plan accepts, with lists of some lengths: the table's room, and the answer.
pub record AcceptedPlan : Type 0 where
  pub table : List ℕ
  pub demands : List ℕ
  pub lengths : Lengths
  pub room : Room
  pub end : ℕ
  pub answer : Plan
  pub is_room : checked table 0 ≡ good room end
  pub is_answer : plan table demands lengths ≡ accepted answer

-- So it is with every answer that is accepted: its table is good, and gives a room.
abbrev pub AcceptedHasRoom : Type 0
AcceptedHasRoom =
    (table demands : List ℕ) (lengths : Lengths) (answer : Plan)
    → plan table demands lengths ≡ accepted answer → Good (checked table 0)

-- The answer is the plan of the two deals, and each of its lists has an entry for each cord, or for each server.
pub record Answered (p : AcceptedPlan) : Type 0 where
  pub is : p.answer ≡ plan_of p.room p.demands
  pub counts : (list : PlanList) → length (output list p.answer) ≡ count_in p.room list

abbrev pub AnswerOfBothDeals : Type 0
AnswerOfBothDeals = (p : AcceptedPlan) → Answered p

-- ---- Document 01, "Dealing": the first deal in its own words

-- A child's excess at level j.
abbrev pub child_excess : Deal → ℕ → Child → ℕ
child_excess d j (node m) = excess (metrics d) m j
child_excess d j (cord c) = at_level d j (cord_excess d) c

-- A deal in which each node has an amount at each rank: a root its excess, any other its part of its parent's amount, split among the
-- children by their excesses; and in which each cord is granted its low and its part of its node's amount, split likewise.
pub record DealtByExcess (d : Deal) : Type 0 where
  pub amounts : ℕ → ℕ → ℕ
  pub root : (m j : ℕ) → m < d.nodes → j < d.levels → d.parent m ≡ 0 → amounts m j ≡ excess (metrics d) m j
  pub to_node : (m n j : ℕ) → m < d.nodes → j < d.levels → d.parent m ≡ suc n
      → amounts m j ≡ part_of d (child_excess d j) n (amounts n j) (node m)
  pub to_cord : (c n : ℕ) → c < d.cords → d.node c ≡ suc n
      → at (granted d) c ≡ d.low c + part_of d (child_excess d (d.level c)) n (amounts n (d.level c)) (cord c)

-- The first deal is such.
abbrev pub FirstByExcess : Type 0
FirstByExcess = (p : AcceptedPlan) → DealtByExcess (first_deal p.room p.demands)

-- ---- Demand 3: every cord from low to want, every node within its limit

-- Each cord has at least its low and at most its want, and the grants beneath each node sum to no more than its limit.
pub record Kept (r : Room) (wants grants : List ℕ) : Type 0 where
  pub least : (c : ℕ) → c < room_cords r → at (lows_of r) c ≤ at grants c
  pub most : (c : ℕ) → c < room_cords r → at grants c ≤ at wants c
  pub within : (n : ℕ) → n < length r.nodes → watts_beneath r n (at grants) ≤ limit (node_at r n)

abbrev pub FirstKept : Type 0
FirstKept =
    (p : AcceptedPlan) → Kept p.room (first_wants p.room p.demands) (first_grants p.room p.demands)

abbrev pub SecondKept : Type 0
SecondKept = (p : AcceptedPlan) → Kept p.room (second_wants p.room p.demands) p.answer.grants

-- ---- Demand 3: no other way of dealing gives a tree's cords of a rank and above more

-- Our grants against every other way of dealing the tree of a root by the same wants.
abbrev pub Greatest : Room → List ℕ → List ℕ → Type 0
Greatest r wants ours =
    (root : ℕ) → Root r root → (rank : ℕ) (watts : List ℕ) → Way r root wants watts
    → watts_beneath r root (from_rank r rank watts) ≤ watts_beneath r root (from_rank r rank ours)

abbrev pub FirstGreatest : Type 0
FirstGreatest =
    (p : AcceptedPlan) → Greatest p.room (first_wants p.room p.demands) (first_grants p.room p.demands)

abbrev pub SecondGreatest : Type 0
SecondGreatest = (p : AcceptedPlan) → Greatest p.room (second_wants p.room p.demands) p.answer.grants

-- ---- Demand 3: what a rank and above get is settled by the demands of that rank and above

-- Two lists of figures, one a server, that agree on every server of a rank and above.
abbrev pub SameServers : Room → ℕ → List ℕ → List ℕ → Type 0
SameServers r rank f g = (v : ℕ) → v < length r.servers → rank ≤ (server_at r v).rank → at f v ≡ at g v

-- Two lists of figures, one a cord, that agree on every cord of a rank and above.
abbrev pub SameCords : Room → ℕ → List ℕ → List ℕ → Type 0
SameCords r rank f g = (c : ℕ) → c < room_cords r → rank ≤ rank_of r c → at f c ≡ at g c

-- Two accepted plans of one room in which, after the first deal and after the second, the cords of a rank and above have
-- the same grants, and their servers the same usable watts; those after the second are the caps.
pub record SameFromRank (rank : ℕ) (p q : AcceptedPlan) : Type 0 where
  pub first : SameCords p.room rank (first_grants p.room p.demands) (first_grants q.room q.demands)
  pub usable : SameServers p.room rank (first_usable p.room p.demands) (first_usable q.room q.demands)
  pub second : SameCords p.room rank p.answer.grants q.answer.grants
  pub caps : SameServers p.room rank p.answer.caps q.answer.caps

-- Two accepted demand lists for one room that agree on every server of a rank and above.
abbrev pub SettledFromRank : Type 0
SettledFromRank =
    (rank : ℕ) (p q : AcceptedPlan) → p.table ≡ q.table → SameServers p.room rank p.demands q.demands
    → SameFromRank rank p q

-- ---- Demand 3: refusal 9

-- The answer is refusal 9, at place n.
abbrev pub IsNine : Result ℕ PlanRefusal → ℕ → Type 0
IsNine answer n = (plan_number answer ≡ 9) × (plan_figure answer ≡ n)

-- Refusal 9 comes exactly when the lows beneath some node exceed its limit, and names the lowest such node.
-- (That of Read and Write: `RefusalNine` of rooms/specs/Promises.antt.)
abbrev pub RefusalNine : Type 0
RefusalNine =
    (table demands : List ℕ) (lengths : Lengths) (n : ℕ)
    → IsNine (answer_of (plan table demands lengths)) n ↔ Overloaded table n

-- ---- A.1: headroom

-- Grants and headroom of all cords beneath a node sum to no more than its limit.
abbrev pub HeadroomWithinLimits : Type 0
HeadroomWithinLimits =
    (p : AcceptedPlan) (n : ℕ) → n < length p.room.nodes
    → watts_beneath p.room n (λ c. at p.answer.grants c + at p.answer.headroom c) ≤ limit (node_at p.room n)

-- No cord's grant and headroom pass its ceiling.
abbrev pub HeadroomWithinCeilings : Type 0
HeadroomWithinCeilings =
    (p : AcceptedPlan) (c : ℕ) → c < room_cords p.room
    → at p.answer.grants c + at p.answer.headroom c ≤ at (ceilings_of p.room) c

-- All of a root's headroom is lent: the cords of its tree have it together.
abbrev pub HeadroomAllLent : Type 0
HeadroomAllLent =
    (p : AcceptedPlan) (root : ℕ) → Root p.room root
    → watts_beneath p.room root (at p.answer.headroom) ≡ root_headroom p.room p.demands root

-- (Demand 3 and A.2 speak of grants, usable watts and caps alone, and no definition of these has headroom in it. So a cord's headroom may
-- follow the demands of lower ranks; grants and caps still may not.)

-- ---- A.2: the second deal in the request's own words, and watts reclaimed from the stranded alone

-- What a child is passed first at level j: the watts from low to start of the cords beneath it, or of the cord itself.
abbrev pub passed : Deal → ℕ → Child → ℕ
passed d j (node m) = cell (metrics d).starts m j - cell (metrics d).pcapmins m j
passed d j (cord c) = at_level d j (λ c. d.start c - d.low c) c

-- What a child gets of the watts in hand of the node at place n: what is passed to it first, and its part of what then remains,
-- split among the children by their excesses less what is passed to each.
unfoldable pub given : Deal → ℕ → ℕ → ℕ → Child → ℕ
unfolding children part_of total
given d n j watts child =
    let rest = watts - sum_of (map (passed d j) (children d n)) in
    passed d j child + part_of d (λ other. child_excess d j other - passed d j other) n rest child

-- A deal in which each node has watts in hand at each rank, beyond the lows: a root all of its excess, any other what its parent
-- gives it so; and in which each cord is granted its low and what its node gives it so.
pub record PassedFirst (d : Deal) : Type 0 where
  pub in_hand : ℕ → ℕ → ℕ
  pub root : (m j : ℕ) → m < d.nodes → j < d.levels → d.parent m ≡ 0 → in_hand m j ≡ excess (metrics d) m j
  pub to_node : (m n j : ℕ) → m < d.nodes → j < d.levels → d.parent m ≡ suc n → in_hand m j ≡ given d n j (in_hand n j) (node m)
  pub to_cord : (c n : ℕ) → c < d.cords → d.node c ≡ suc n
      → at (granted d) c ≡ d.low c + given d n (d.level c) (in_hand n (d.level c)) (cord c)

-- The second deal is such; what is passed first there is used − low.
abbrev pub SecondPassesFirst : Type 0
SecondPassesFirst = (p : AcceptedPlan) → PassedFirst (second_deal p.room p.demands)

-- No cap is below what its server could use after the first deal.
abbrev pub CapsKeepUsable : Type 0
CapsKeepUsable =
    (p : AcceptedPlan) (v : ℕ) → v < length p.room.servers → at (first_usable p.room p.demands) v ≤ at p.answer.caps v

-- No cord is granted less than it used after the first deal.
abbrev pub GrantsKeepUsed : Type 0
GrantsKeepUsed =
    (p : AcceptedPlan) (c : ℕ) → c < room_cords p.room → at (first_used p.room p.demands) c ≤ at p.answer.grants c

-- ---- A.3: a version 1 room and the version 2 room with 80 throughout

-- Two tables have equal plans: whatever the demands and the lengths of the lists, Plan comes to the same of both, be it the answer and
-- what is written, or the refusal with its place.
abbrev pub EqualPlans : List ℕ → List ℕ → Type 0
EqualPlans w v = (demands : List ℕ) (lengths : Lengths) → plan w demands lengths ≡ plan v demands lengths

-- A version 1 table and the version 2 table with 80 throughout have equal plans. The table is good up to refusal 9, which is told of both
-- or of neither, and names the same node.
abbrev pub EightyThroughout : Type 0
EightyThroughout = (w : List ℕ) → at w 0 ≡ 1 → Good (table w 0) → EqualPlans w (second_version w)

-- ---- A.4: that the short way and the long way of a split give its parts is `ShortWaySplits` and `LongWaySplits` of splits/specs/Promises.antt

-- ---- A.5: the breaker that holds a cord down

-- Node n, by its number, holds the cord at place c down, where these are the grants: it is a node above the cord, the grants of all cords
-- beneath it sum to its limit, and every cord beneath it of a lower rank than the held one's has just its low.
pub record HoldsDown (r : Room) (grants : List ℕ) (c n : ℕ) : Type 0 where
  pub node : IsNode r n
  pub above : cord_beneath r (n - 1) c ≡ true
  pub full : watts_beneath r (n - 1) (at grants) ≡ limit (node_at r (n - 1))
  pub lower : (h : ℕ) → h < room_cords r → cord_beneath r (n - 1) h ≡ true → rank_of r h < rank_of r c → at grants h ≡ at (lows_of r) h

-- Every cord with less than its second want has a node named, and that node holds it down.
abbrev pub HeldNamed : Type 0
HeldNamed =
    (p : AcceptedPlan) (c : ℕ) → c < room_cords p.room → at p.answer.grants c < at (second_wants p.room p.demands) c
    → HoldsDown p.room p.answer.grants c (at p.answer.held c)

-- A cord with its second want has none: 0 stands for it. (No cord has more than its want: `SecondKept`.)
abbrev pub HeldNone : Type 0
HeldNone =
    (p : AcceptedPlan) (c : ℕ) → c < room_cords p.room → at p.answer.grants c ≡ at (second_wants p.room p.demands) c
    → at p.answer.held c ≡ 0

-- The node at place n is above the cord at place c and cut at the cord's level or a higher one, and no node above it is so cut.
pub record NearestCut (d : Deal) (c n : ℕ) : Type 0 where
  pub above : beneath d.parent d.nodes n (d.node c) ≡ true
  pub cut : cut_from d (metrics d) (d.level c) n ≡ true
  pub nearest : (m : ℕ) → beneath d.parent d.nodes m (d.parent n) ≡ true → cut_from d (metrics d) (d.level c) m ≡ false

-- Such is the node that is named for every cord with less than its second want.
abbrev pub HeldNearest : Type 0
HeldNearest =
    (p : AcceptedPlan) (c : ℕ) → c < room_cords p.room → at p.answer.grants c < at (second_wants p.room p.demands) c
    → NearestCut (second_deal p.room p.demands) c (at p.answer.held c - 1)

-- ---- A.9: a given list of grants, judged

-- Of the cords before a place each has its low, or no more than its want; of the nodes before a place none has its limit passed.
abbrev pub LowsKept : Room → List ℕ → ℕ → Type 0
LowsKept r grants upto = (c : ℕ) → c < upto → at (lows_of r) c ≤ at grants c

abbrev pub WantsKept : List ℕ → List ℕ → ℕ → Type 0
WantsKept wants grants upto = (c : ℕ) → c < upto → at grants c ≤ at wants c

abbrev pub LimitsKept : Room → List ℕ → ℕ → Type 0
LimitsKept r grants upto = (n : ℕ) → n < upto → watts_beneath r n (at grants) ≤ limit (node_at r n)

-- No way of dealing the tree of the root at place n gives its cords of a rank and above more than the list does.
abbrev pub Unbeaten : Room → List ℕ → List ℕ → ℕ → ℕ → Type 0
Unbeaten r wants grants n rank =
    (watts : List ℕ) → Way r n wants watts → watts_beneath r n (from_rank r rank watts) ≤ watts_beneath r n (from_rank r rank grants)

-- Some way does: the tree is short at that rank.
pub record Beaten (r : Room) (wants grants : List ℕ) (n rank : ℕ) : Type 0 where
  pub watts : List ℕ
  pub way : Way r n wants watts
  pub more : watts_beneath r n (from_rank r rank grants) < watts_beneath r n (from_rank r rank watts)

-- The cord at place c is the lowest below its low.
pub record LowestBelow (r : Room) (grants : List ℕ) (c : ℕ) : Type 0 where
  pub cord : c < room_cords r
  pub below : at grants c < at (lows_of r) c
  pub lower : LowsKept r grants c

-- No cord is below its low, and the one at place c is the lowest above its want.
pub record LowestAbove (r : Room) (wants grants : List ℕ) (c : ℕ) : Type 0 where
  pub lows : LowsKept r grants (room_cords r)
  pub cord : c < room_cords r
  pub above : at wants c < at grants c
  pub lower : WantsKept wants grants c

-- Each cord lies from low to want, and the node of this number is the lowest whose limit is passed.
pub record LowestOver (r : Room) (wants grants : List ℕ) (number : ℕ) : Type 0 where
  pub lows : LowsKept r grants (room_cords r)
  pub wanted : WantsKept wants grants (room_cords r)
  pub place : ℕ
  pub numbered : number ≡ suc place
  pub node : place < length r.nodes
  pub over : limit (node_at r place) < watts_beneath r place (at grants)
  pub lower : LimitsKept r grants place

-- Cords and limits are kept, and the node of this number is the lowest root whose tree is short, with the highest such rank.
pub record LowestShort (r : Room) (wants grants : List ℕ) (number rank : ℕ) : Type 0 where
  pub kept : Kept r wants grants
  pub place : ℕ
  pub numbered : number ≡ suc place
  pub root : Root r place
  pub is_rank : (1 ≤ rank) × (rank ≤ highest_rank)
  pub beaten : Beaten r wants grants place rank
  pub higher : (other : ℕ) → rank < other → Unbeaten r wants grants place other
  pub lower : (m : ℕ) → m < place → Root r m → (other : ℕ) → Unbeaten r wants grants m other

-- What a verdict says of a list of grants, by given wants.
abbrev pub Says : Room → List ℕ → List ℕ → Verdict → Type 0
Says r wants grants Passes = Kept r wants grants × Greatest r wants grants
Says r wants grants (BelowLow c) = LowestBelow r grants c
Says r wants grants (AboveWant c) = LowestAbove r wants grants c
Says r wants grants (OverLimit number) = LowestOver r wants grants number
Says r wants grants (Short root rank) = LowestShort r wants grants root rank

-- A verdict is given exactly if what it says is so, by the wants of the first deal. So the list passes exactly if each cord lies from low
-- to want, no limit is passed, and no way of dealing a tree gives any rank and above more.
abbrev pub JudgedExactly : Type 0
JudgedExactly =
    (table : List ℕ) (r : Room) (end : ℕ) → checked table 0 ≡ good r end
    → (demands grants : List ℕ) (v : Verdict) → (verdict r demands grants ≡ v) ↔ Says r (first_wants r demands) grants v

-- Our own first grants pass. (The second, which are Plan's answer, go by other wants and need not: SPECIFICATION has a room.)
abbrev pub FirstGrantsPass : Type 0
FirstGrantsPass =
    (table : List ℕ) (r : Room) (end : ℕ) → checked table 0 ≡ good r end
    → (demands : List ℕ) → verdict r demands (first_grants r demands) ≡ Passes

-- ---- A.11: over the room's scale, whatever the version, and for both scales together

-- Used never exceeds grant: after the first deal, and of the caps after the second.
abbrev pub UsedGranted : Type 0
UsedGranted =
    (p : AcceptedPlan) (c : ℕ) → c < room_cords p.room
    → (at (first_used p.room p.demands) c ≤ at (first_grants p.room p.demands) c)
    × (at (carried_by p.room p.answer.caps) c ≤ at p.answer.grants c)

-- Usable is never below its server's least, nor above its need: after the first deal.
abbrev pub UsableInRange : Type 0
UsableInRange =
    (p : AcceptedPlan) (v : ℕ) → v < length p.room.servers
    → ((server_at p.room v).least ≤ at (first_usable p.room p.demands) v)
    × (at (first_usable p.room p.demands) v ≤ at (needs p.room p.demands) v)

-- So is it after the second: the cap. (A.2's claim on caps is `CapsKeepUsable`.)
abbrev pub CapsInRange : Type 0
CapsInRange =
    (p : AcceptedPlan) (v : ℕ) → v < length p.room.servers
    → ((server_at p.room v).least ≤ at p.answer.caps v) × (at p.answer.caps v ≤ at (needs p.room p.demands) v)

-- A version 2 table and the version 3 table with every share tenfold have equal plans, likewise.
abbrev pub SharesTenfold : Type 0
SharesTenfold = (w : List ℕ) → at w 0 ≡ 2 → Good (table w 0) → EqualPlans w (third_version w)
