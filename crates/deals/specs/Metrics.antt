-- Metrics of a deal: Pcapmin, Request and excess, at each node for each rank.
use Rattle.std.specs.Prelude.{List, [], ◌∷◌, ℕ, zero, suc, ◌+◌, ◌-◌, min, eqb, length, get_or}
use Rattle.figures.specs.Figures.{total, figures_from, figures, at, cell, sum_of}
use Rattle.figures.specs.Sums.{on, sum}
use Rattle.rooms.specs.Table.{Room, highest_rank}
use Rattle.rooms.specs.Trees.{child_sum}
use Rattle.rooms.specs.Lists.{parents_of, limits_of, nodes_of, levels_of, lows_of}

-- What a deal goes by: nodes and cords by their places, counted from 0. A parent, and a cord's node, is a node's number:
-- its place plus one, or 0 for none. A level is a rank counted from 0, as the places of a row are; there are `levels` of them.
-- A cord's start is what it has before anything is dealt.
pub record Deal : Type 0 where
  pub nodes : ℕ
  pub parent : ℕ → ℕ
  pub limit : ℕ → ℕ
  pub cords : ℕ
  pub node : ℕ → ℕ
  pub level : ℕ → ℕ
  pub low : ℕ → ℕ
  pub want : ℕ → ℕ
  pub start : ℕ → ℕ
  pub levels : ℕ

-- The deal of lists of figures: parents and limits, one a node; nodes, levels, lows, starts and wants, one a cord.
unfoldable pub deal_from : (parents limits nodes levels lows starts wants : List ℕ) → Deal
deal_from parents limits nodes levels lows starts wants = record {
  nodes = length parents;
  parent = at parents;
  limit = at limits;
  cords = length nodes;
  node = at nodes;
  level = at levels;
  low = at lows;
  want = at wants;
  start = at starts;
  levels = highest_rank;
}

-- The deal of a room by given starts and wants, one of each a cord.
unfoldable pub deal_of : Room → (starts wants : List ℕ) → Deal
unfolding deal_from parents_of limits_of nodes_of levels_of lows_of
deal_of r starts wants = deal_from (parents_of r) (limits_of r) (nodes_of r) (levels_of r) (lows_of r) starts wants

-- A figure of a cord at a level: 0 where that is not the cord's.
abbrev pub at_level : Deal → ℕ → (ℕ → ℕ) → ℕ → ℕ
at_level d j figure c = on (eqb (d.level c) j) (figure c)

-- ---- Sums over a node's children: its child nodes, and its own cords

-- A figure of the child nodes of the node at place n, and one of the cords that hang on it itself, summed.
abbrev pub over_children : Deal → ℕ → (ℕ → ℕ) → (ℕ → ℕ) → ℕ
over_children d n of_node of_cord = child_sum d.nodes d.parent n of_node + child_sum d.cords d.node n of_cord

-- The children's figures at each level, summed. `rows` are those of the nodes after place n, where its child nodes are: the row of the node
-- at place m stands at m − (n + 1).
unfoldable pub child_sums : Deal → ℕ → List (List ℕ) → (ℕ → ℕ) → List ℕ
unfolding figures_from sum
child_sums d n rows figure = figures d.levels (λ j. over_children d n (λ m. cell rows (m - suc n) j) (at_level d j figure))

-- ---- Pcapmin and Request

-- The rows of the k nodes from place n on, of a figure of the cords: at each rank the sum over the node's children, a cord's
-- being its figure. (So it is the sum over all cords beneath the node.)
unfoldable pub sums_from : Deal → (ℕ → ℕ) → ℕ → ℕ → List (List ℕ)
unfolding child_sums
sums_from d figure zero n = []
sums_from d figure (suc k) n =
    let rows = sums_from d figure k (suc n) in
    child_sums d n rows figure ∷ rows

-- The Requests of a node at k levels from level j on, where the Pcapmin of the lower ranks sum to `lower`. From the
-- highest rank down, each is the children's, cut to what the limit has over the Requests of higher and the Pcapmin of lower ranks.
unfoldable pub requests_above : ℕ → ℕ → ℕ → ℕ → (ℕ → ℕ) → (ℕ → ℕ) → List ℕ
unfolding total
requests_above zero j limit lower pcapmin children = []
requests_above (suc k) j limit lower pcapmin children =
    let higher = requests_above k (suc j) limit (lower + pcapmin j) pcapmin children in
    min (limit - sum_of higher - lower) (children j) ∷ higher

-- The Request rows of the k nodes from place n on, a cord's Request being its want.
unfoldable pub requests_from : Deal → List (List ℕ) → ℕ → ℕ → List (List ℕ)
unfolding child_sums requests_above
requests_from d pcapmins zero n = []
requests_from d pcapmins (suc k) n =
    let rows = requests_from d pcapmins k (suc n) in
    let children = child_sums d n rows d.want in
    let pcapmin = get_or pcapmins n [] in
    requests_above d.levels 0 (d.limit n) 0 (at pcapmin) (at children) ∷ rows

-- The metrics of a deal: for each node, its row of Pcapmin, a cord's being its low, and its row of Requests; and the starts
-- of the cords beneath it.
pub record Metrics : Type 0 where
  pub pcapmins : List (List ℕ)
  pub requests : List (List ℕ)
  pub starts : List (List ℕ)

unfoldable pub metrics : Deal → Metrics
unfolding sums_from requests_from
metrics d =
    let pcapmins = sums_from d d.low d.nodes 0 in
    record { pcapmins = pcapmins; requests = requests_from d pcapmins d.nodes 0; starts = sums_from d d.start d.nodes 0 }

-- The excess of a node at a level: Request − Pcapmin. That of a cord, at its own level: want − low.
abbrev pub excess : Metrics → ℕ → ℕ → ℕ
excess f m j = cell f.requests m j - cell f.pcapmins m j

abbrev pub cord_excess : Deal → ℕ → ℕ
cord_excess d c = d.want c - d.low c
