-- What else is proved of every plan, though no document asks for it: that wants and amounts lie in their ranges, what a node's Requests of
-- a rank and above sum to, that they leave the lower ranks their starts, and that the figures fit their words. Statements only;
-- proofs/Promises.antt proves each: `SecondWantsInRange` as `second_wants_in_range`, and so on.
use Rattle.std.specs.Prelude.{◌≡◌, List, [], map, ℕ, suc, ◌+◌, ◌*◌, ◌-◌, ◌≤◌, ◌<◌, ◌^◌, min, leb, length, get_or, take, drop}
use Rattle.rooms.specs.Part.{good}
use Rattle.rooms.specs.Table.{Room, most_watts, most_cords, room_cords}
use Rattle.rooms.specs.Limits.{checked}
use Rattle.figures.specs.Figures.{total, at, cell, sum_of}
use Rattle.figures.specs.Sums.{on}
use Rattle.deals.specs.Wants.{needs, first_wants}
use Rattle.rooms.specs.Lists.{lows_of}
use Rattle.deals.specs.Metrics.{Deal, at_level, metrics, excess, over_children, child_sums}
use Rattle.deals.specs.Dealing.{node, children, node_over, cord_over, weight_sum, node_amount, amount, reached}
use Rattle.deals.specs.SecondDeal.{first_deal, freed, second_deal, second_wants}
use Rattle.deals.specs.Headroom.{ceilings_of, node_ceiling, requests_at, headroom_weight}
use Rattle.deals.specs.Promises.{AcceptedPlan}

-- ---- The second deal's wants, and what a node gives

-- The second deal's wants lie from low to the first's wants.
abbrev pub SecondWantsInRange : Type 0
SecondWantsInRange =
    (p : AcceptedPlan) (c : ℕ) → c < room_cords p.room
    → (at (lows_of p.room) c ≤ at (second_wants p.room p.demands) c)
    × (at (second_wants p.room p.demands) c ≤ at (first_wants p.room p.demands) c)

-- A deal in which every node gives its children all of its amount at each rank, and none of them more than its weight: its
-- excess in the first deal, and its excess less what it was passed first in the second.
pub record GivesAll (d : Deal) : Type 0 where
  pub all : (n j : ℕ) → n < d.nodes → j < d.levels
      → over_children d n (λ m. amount d (metrics d) (suc m) m j) (at_level d j (reached d (metrics d)))
      ≡ amount d (metrics d) (suc n) n j
  pub to_node : (m j : ℕ) → m < d.nodes → j < d.levels → amount d (metrics d) (suc m) m j ≤ node_over (metrics d) m j
  pub to_cord : (c : ℕ) → c < d.cords → reached d (metrics d) c ≤ cord_over d c

abbrev pub FirstGivesAll : Type 0
FirstGivesAll = (p : AcceptedPlan) → GivesAll (first_deal p.room p.demands)

abbrev pub SecondGivesAll : Type 0
SecondGivesAll = (p : AcceptedPlan) → GivesAll (second_deal p.room p.demands)

-- ---- The law of totals

-- The Requests of the node at place n of level j and above, summed.
abbrev pub request_total : Deal → ℕ → ℕ → ℕ
request_total d n j = sum_of (drop j (get_or (metrics d).requests n []))

-- Its Pcapmin of the levels below j, summed.
abbrev pub pcapmin_below : Deal → ℕ → ℕ → ℕ
pcapmin_below d n j = sum_of (take j (get_or (metrics d).pcapmins n []))

-- The starts beneath it of the levels below j, summed.
abbrev pub starts_below : Deal → ℕ → ℕ → ℕ
starts_below d n j = sum_of (take j (get_or (metrics d).starts n []))

-- A figure of the cords of level j and above: 0 at the others.
abbrev pub from_level : Deal → ℕ → (ℕ → ℕ) → ℕ → ℕ
from_level d j figure c = on (leb j (d.level c)) (figure c)

-- A deal in which, at every node, the Requests of any rank and above sum to the lesser of limit − (Pcapmin of lower ranks) and
-- the children's sum, where a child node counts for its own Requests of that rank and above, and a cord of that rank or above
-- for its want. (No way of dealing can give the cords beneath the node more: `FirstGreatest` and `SecondGreatest` follow.)
abbrev pub TotalsOf : Deal → Type 0
TotalsOf d =
    (n j : ℕ) → n < d.nodes → j ≤ d.levels
    → request_total d n j
    ≡ min (d.limit n - pcapmin_below d n j)
    (over_children d n (λ m. request_total d m j) (from_level d j d.want))

-- Where the table is accepted, both deals are such, whatever the demands.
abbrev pub Totals : Type 0
Totals =
    (table : List ℕ) (r : Room) (end : ℕ) → checked table 0 ≡ good r end → (demands : List ℕ)
    → TotalsOf (first_deal r demands) × TotalsOf (second_deal r demands)

-- A deal in which, at every node, the Requests of any rank and above leave the lower ranks their starts. (So it comes to the same
-- Requests if, at each node, the limit less the starts of the lower ranks stands for the limit less their Pcapmin.)
abbrev pub StartsFit : Deal → Type 0
StartsFit d = (n j : ℕ) → n < d.nodes → j ≤ d.levels → starts_below d n j + request_total d n j ≤ d.limit n

-- Both deals of an accepted table are such, whatever the demands.
abbrev pub StartsLeft : Type 0
StartsLeft =
    (table : List ℕ) (r : Room) (end : ℕ) → checked table 0 ≡ good r end → (demands : List ℕ)
    → StartsFit (first_deal r demands) × StartsFit (second_deal r demands)

-- ---- The figures that code holds fit their words

-- The most that one figure a cord, summed over all cords, comes to.
abbrev pub most_sum : ℕ
most_sum = most_cords * most_watts

-- The figures of a deal, for every node and level. A limit, a want, and so each low, start, grant, Pcapmin, Request and amount, fits
-- in 24 bits; the children's sums fit in 34, and an amount times any running sum of weights in 58. No difference is below 0.
pub record DealBounded (d : Deal) : Type 0 where
  pub limits : (n : ℕ) → n < d.nodes → d.limit n ≤ most_watts
  pub wants : (c : ℕ) → c < d.cords → d.want c ≤ most_watts
  pub lows : (c : ℕ) → c < d.cords → d.low c ≤ d.start c
  pub starts : (c : ℕ) → c < d.cords → d.start c ≤ d.want c
  pub left : (n j : ℕ) → n < d.nodes → j < d.levels
      → pcapmin_below d n j + request_total d n (j + 1) ≤ d.limit n
  pub pcapmins : (n j : ℕ) → n < d.nodes → j < d.levels
      → cell (metrics d).pcapmins n j ≤ cell (metrics d).starts n j
  pub beneath : (n j : ℕ) → n < d.nodes → j < d.levels
      → cell (metrics d).starts n j ≤ cell (metrics d).requests n j
  pub requests : (n : ℕ) → n < d.nodes → sum_of (get_or (metrics d).requests n []) ≤ d.limit n
  pub children : (n j : ℕ) → n < d.nodes → j < d.levels
      → at (child_sums d n (drop (n + 1) (metrics d).requests) d.want) j ≤ most_sum
  pub weights : (n j : ℕ) → n < d.nodes → j < d.levels → weight_sum d (metrics d) n j ≤ most_sum
  pub amounts : (n j : ℕ) → n < d.nodes → j < d.levels → amount d (metrics d) (n + 1) n j ≤ excess (metrics d) n j
  pub products : (n j : ℕ) → n < d.nodes → j < d.levels
      → amount d (metrics d) (n + 1) n j * weight_sum d (metrics d) n j < 2 ^ 58

-- The figures of a plan: needs, and so usable watts and caps, fit in 24 bits, and freed in 34.
pub record Bounded (r : Room) (demands : List ℕ) : Type 0 where
  pub needs : (v : ℕ) → v < length r.servers → at (needs r demands) v ≤ most_watts
  pub freed : freed r demands ≤ most_sum
  pub first : DealBounded (first_deal r demands)
  pub second : DealBounded (second_deal r demands)

-- Where the table is accepted, they fit, whatever the demands.
abbrev pub FiguresFit : Type 0
FiguresFit =
    (table : List ℕ) (r : Room) (end : ℕ) → checked table 0 ≡ good r end → (demands : List ℕ) → Bounded r demands

-- The weights of the children of the node at place n, summed, and what that node has to lend.
unfoldable pub headroom_weights : Deal → (ℕ → ℕ) → ℕ → ℕ
unfolding children total metrics node_ceiling
headroom_weights d ceiling n = sum_of (map (headroom_weight d (metrics d) ceiling) (children d n))

unfoldable pub headroom_at : Deal → (ℕ → ℕ) → ℕ → ℕ
unfolding node_amount metrics node_ceiling total
headroom_at d ceiling n = node_amount d (headroom_weight d (metrics d) ceiling) (suc n) n

-- The figures of the headroom over a deal, where each cord has a ceiling. A ceiling, of a cord or of a node, and so each headroom, fits in
-- 24 bits; the children's ceilings, summed, and their weights, summed, fit in 34, and headroom times any running sum of weights fits
-- in 58. No difference is below 0, and no node weighs more than its children.
pub record HeadroomBounded (d : Deal) (ceiling : ℕ → ℕ) : Type 0 where
  pub ceilings : (c : ℕ) → c < d.cords → ceiling c ≤ most_watts
  pub wants : (c : ℕ) → c < d.cords → d.want c ≤ ceiling c
  pub limits : (n : ℕ) → n < d.nodes → node_ceiling d ceiling n ≤ d.limit n
  pub requests : (n : ℕ) → n < d.nodes → requests_at (metrics d) n ≤ node_ceiling d ceiling n
  pub children : (n : ℕ) → n < d.nodes
      → over_children d n (node_ceiling d ceiling) ceiling ≤ most_sum
  pub enough : (n : ℕ) → n < d.nodes → headroom_weight d (metrics d) ceiling (node n) ≤ headroom_weights d ceiling n
  pub weights : (n : ℕ) → n < d.nodes → headroom_weights d ceiling n ≤ most_sum
  pub amounts : (n : ℕ) → n < d.nodes → headroom_at d ceiling n ≤ headroom_weight d (metrics d) ceiling (node n)
  pub products : (n : ℕ) → n < d.nodes → headroom_at d ceiling n * headroom_weights d ceiling n < 2 ^ 58

-- Where the table is accepted, they fit, whatever the demands.
abbrev pub HeadroomFits : Type 0
HeadroomFits =
    (table : List ℕ) (r : Room) (end : ℕ) → checked table 0 ≡ good r end → (demands : List ℕ)
    → HeadroomBounded (second_deal r demands) (at (ceilings_of r))
