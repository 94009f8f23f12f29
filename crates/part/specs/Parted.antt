-- A room parted in two after so many nodes and servers.
use Rattle.std.specs.Prelude.{◌≡◌, map, ◌⊎◌, ℕ, ◌-◌, ◌≤◌, ◌<◌, length, get_or, take, drop}
use Rattle.rooms.specs.Table.{Node, Cord, Server, Room, cord_count}
use Rattle.rooms.specs.Limits.{parent_of}
use Rattle.rooms.specs.Cords.{server_at}

-- A node, a cord and a server behind the cut: their numbers of nodes are lowered by the count of those before it, 0 staying 0.
abbrev pub lowered_node : ℕ → Node → Node
lowered_node by n = record { parent = n.parent - by; rating = n.rating; percent = n.percent }

abbrev pub lowered_cord : ℕ → Cord → Cord
lowered_cord by c = record { node = c.node - by; share = c.share }

abbrev pub lowered_server : ℕ → Server → Server
lowered_server by s = record { rank = s.rank; least = s.least; greatest = s.greatest; cords = map (lowered_cord by) s.cords }

-- The parts: the first `nodes` nodes and `servers` servers, and the others.
abbrev pub front : (nodes servers : ℕ) → Room → Room
front nodes servers r = record { scale = r.scale; nodes = take nodes r.nodes; servers = take servers r.servers }

abbrev pub back : (nodes servers : ℕ) → Room → Room
back nodes servers r = record {
  scale = r.scale;
  nodes = map (lowered_node nodes) (drop nodes r.nodes);
  servers = map (lowered_server nodes) (drop servers r.servers);
}

-- A number that is none, or that of a node behind the cut.
abbrev pub Behind : ℕ → ℕ → Type 0
Behind nodes number = (number ≡ 0) ⊎ (nodes < number)

-- A cord of a server, by their places.
abbrev pub cord_of : Room → ℕ → ℕ → Cord
cord_of r v k = get_or (server_at r v).cords k (record { node = 0; share = 0 })

-- No parent link and no cord crosses the cut. (A node before the cut has its parent before it, since a parent's number is below its child's.)
pub record Uncrossed (nodes servers : ℕ) (r : Room) : Type 0 where
  pub parents : (m : ℕ) → nodes ≤ m → m < length r.nodes → Behind nodes (parent_of r m)
  pub before : (v k : ℕ) → v < servers → k < cord_count (server_at r v) → (cord_of r v k).node ≤ nodes
  pub behind : (v k : ℕ) → servers ≤ v → v < length r.servers → k < cord_count (server_at r v) → nodes < (cord_of r v k).node
