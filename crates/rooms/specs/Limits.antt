-- What a node may carry: limits, lows, and the cords beneath a node at any depth.
use Rattle.std.specs.Prelude.{Bool, Option, Some, None, cond, List, [], ◌∷◌, ℕ, zero, suc, ◌+◌, ◌-◌, ◌*◌, ◌/◌, length, get_or, replicate, eqb, ltb}
use Rattle.rooms.specs.Part.{Step, good, bad, Part, ◌>>=◌, give, ensure}
use Rattle.figures.specs.Figures.{total}
use Rattle.figures.specs.Sums.{on}
use Rattle.rooms.specs.Table.{Node, Cord, Server, Room, most_nodes, table}
use Rattle.rooms.specs.Trees.{beneath}
use Rattle.rooms.specs.declared.SheetRefusal.TheVariants.{LowsAboveLimit}

-- A node's limit: floor(rating × percent / 100).
abbrev pub limit : Node → ℕ
limit n = n.rating * n.percent / 100

-- The watts of a load that a share of it carries, rounded up: ceil(share × load / scale).
abbrev pub carried : ℕ → ℕ → ℕ → ℕ
carried scale share load = (share * load + (scale - 1)) / scale

-- A cord's low, by the room's scale and its server's least: ceil(share × least / scale).
abbrev pub low : ℕ → ℕ → Cord → ℕ
low scale least c = carried scale c.share least

-- The node at a place, and its parent's number.
abbrev pub node_at : Room → ℕ → Node
node_at r m = get_or r.nodes m (record { parent = 0; rating = 0; percent = 0 })

abbrev pub parent_of : Room → ℕ → ℕ
parent_of r m = (node_at r m).parent

-- Whether what hangs on node number v is beneath the node at place n, at any depth.
-- No way is longer than the count of nodes, since a parent's number is below its child's.
abbrev pub hangs_beneath : Room → ℕ → ℕ → Bool
hangs_beneath r n v = beneath (parent_of r) (length r.nodes) n v

-- The lows of the cords of some servers that hang on nodes of which a test holds.
unfoldable pub server_lows : ℕ → (ℕ → Bool) → Server → ℕ
server_lows scale test s = total (λ c. on (test c.node) (low scale s.least c)) s.cords

unfoldable pub lows : ℕ → (ℕ → Bool) → List Server → ℕ
lows scale test = total (server_lows scale test)

-- The lows of all cords beneath the node at place n.
abbrev pub lows_beneath : Room → ℕ → ℕ
lows_beneath r n = lows r.scale (hangs_beneath r n) r.servers

-- The lows beneath each of so many places from n on, as a list. A place past the room's nodes has no cord beneath it, and so 0.
unfoldable pub lows_from : ℕ → ℕ → Room → List ℕ
lows_from zero n r = []
lows_from (suc count) n r = lows_beneath r n ∷ lows_from count (suc n) r

-- The lows beneath each place that a room may have a node at.
abbrev pub node_lows : Room → List ℕ
node_lows r = lows_from most_nodes 0 r

-- The number of the first node, of so many from place n on, of which a test holds; 0 if there is none.
unfoldable pub first_node : ℕ → ℕ → (ℕ → Bool) → ℕ
first_node zero n test = 0
first_node (suc count) n test = cond (test n) (suc n) (first_node count (suc n) test)

-- The lowest node whose limit the lows beneath it exceed; 0 if there is none.
unfoldable pub overloaded : Room → ℕ
overloaded r = first_node (length r.nodes) 0 (λ n. ltb (limit (node_at r n)) (lows_beneath r n))

-- The number of a node that was found; 0 is none.
abbrev pub found_node : ℕ → Option ℕ
found_node zero = None
found_node (suc m) = Some (suc m)

-- The whole check of a table. Refused last: lows beneath a node exceed its limit (9), at the lowest such node.
unfoldable pub checked : Part Room
checked = do
  r ← table
  _ ← ensure (eqb (overloaded r) 0) (LowsAboveLimit (overloaded r))
  give r

-- The lows that a check hands out: those beneath each place of a good table's room; all 0 if the table is refused.
unfoldable pub lows_told : Step Room → List ℕ
lows_told (good r end) = node_lows r
lows_told (bad refusal) = replicate most_nodes 0
