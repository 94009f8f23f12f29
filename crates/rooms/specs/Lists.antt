-- The figures of a room as lists: one figure a node or one a cord, in the table's order. Above the table's form, all is said of these.
use Rattle.std.specs.Prelude.{List, ℕ, ◌-◌, length}
use Rattle.figures.specs.Figures.{figures_from, figures, at}
use Rattle.rooms.specs.Table.{Room, room_cords}
use Rattle.rooms.specs.Limits.{limit, node_at, parent_of, carried}
use Rattle.rooms.specs.Cords.{cords_from, cord_at, server_at, rank_of}

-- The parent and the limit of each node of a room.
unfoldable pub parents_of : Room → List ℕ
unfolding figures_from
parents_of r = figures (length r.nodes) (parent_of r)

unfoldable pub limits_of : Room → List ℕ
unfolding figures_from
limits_of r = figures (length r.nodes) (λ m. limit (node_at r m))

-- The node and the level of each cord.
unfoldable pub nodes_of : Room → List ℕ
unfolding figures_from cords_from
nodes_of r = figures (room_cords r) (λ c. (cord_at r c).node)

unfoldable pub levels_of : Room → List ℕ
unfolding figures_from cords_from
levels_of r = figures (room_cords r) (λ c. rank_of r c - 1)

-- The share of each cord, and the place of its server.
abbrev pub shares_of : Room → List ℕ
shares_of r = figures (room_cords r) (λ c. (cord_at r c).share)

abbrev pub servers_of : Room → List ℕ
servers_of r = figures (room_cords r) (λ c. (cord_at r c).server)

-- What each cord carries where each server has the load given: ceil(share × load / scale).
unfoldable pub carried_by : Room → List ℕ → List ℕ
unfolding figures_from cords_from
carried_by r loads = figures (room_cords r) (λ c. carried r.scale (cord_at r c).share (at loads (cord_at r c).server))

-- The low of each cord: what it carries of its server's least.
unfoldable pub lows_of : Room → List ℕ
unfolding carried_by
lows_of r = carried_by r (figures (length r.servers) (λ v. (server_at r v).least))
