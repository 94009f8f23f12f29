-- Headroom (request A.1): watts at the roots that nobody is granted, lent out over the second deal's Requests.
use Rattle.std.specs.Prelude.{List, [], ℕ, zero, suc, ◌-◌, min, length, get_or}
use Rattle.figures.specs.Figures.{total, figures_from, figures, at, sum_of}
use Rattle.figures.specs.Sums.{sum}
use Rattle.rooms.specs.Table.{Room}
use Rattle.rooms.specs.Cords.{server_at}
use Rattle.rooms.specs.Lists.{carried_by}
use Rattle.deals.specs.Metrics.{Deal, Metrics, metrics, over_children}
use Rattle.deals.specs.Dealing.{Child, node, cord, cord_amount}
use Rattle.deals.specs.SecondDeal.{second_deal}

-- The ceiling of each cord: what it carries of its server's greatest.
unfoldable pub ceilings_of : Room → List ℕ
unfolding figures_from carried_by
ceilings_of r = carried_by r (figures (length r.servers) (λ v. (server_at r v).greatest))

-- The ceiling of the node at place n, by those of the cords: its limit, or the sum of its children's ceilings where that is less.
-- (`steps` bounds the way down; a child node stands after its parent, so that the count of nodes is enough.)
unfoldable pub ceiling_within : Deal → (ℕ → ℕ) → ℕ → ℕ → ℕ
unfolding sum
ceiling_within d ceiling zero n = 0
ceiling_within d ceiling (suc steps) n =
    min (d.limit n) (over_children d n (ceiling_within d ceiling steps) ceiling)

unfoldable pub node_ceiling : Deal → (ℕ → ℕ) → ℕ → ℕ
unfolding ceiling_within
node_ceiling d ceiling n = ceiling_within d ceiling d.nodes n

-- The Requests of the node at place n, of all ranks, summed.
abbrev pub requests_at : Metrics → ℕ → ℕ
requests_at f n = sum_of (get_or f.requests n [])

-- A child's weight is its ceiling less its Requests; a cord's one Request is its want.
abbrev pub headroom_weight : Deal → Metrics → (ℕ → ℕ) → Child → ℕ
headroom_weight d f ceiling (node m) = node_ceiling d ceiling m - requests_at f m
headroom_weight d f ceiling (cord c) = ceiling c - d.want c

-- The headroom of each cord over a deal: a root has all of its weight to lend, and it is split as amounts are, by these weights.
unfoldable pub headroom_over : Deal → (ℕ → ℕ) → List ℕ
unfolding figures_from metrics node_ceiling total cord_amount
headroom_over d ceiling =
    let f = metrics d in
    figures d.cords (cord_amount d (headroom_weight d f ceiling))

-- The headroom of each cord of a room with given demands, after the second deal.
unfoldable pub headroom : Room → List ℕ → List ℕ
unfolding second_deal ceilings_of headroom_over
headroom r demands = headroom_over (second_deal r demands) (at (ceilings_of r))

-- The headroom that the root at place n has to lend: its ceiling less the sum of its Requests.
unfoldable pub root_headroom : Room → List ℕ → ℕ → ℕ
unfolding second_deal ceilings_of node_ceiling metrics total
root_headroom r demands n = node_ceiling (second_deal r demands) (at (ceilings_of r)) n - requests_at (metrics (second_deal r demands)) n
