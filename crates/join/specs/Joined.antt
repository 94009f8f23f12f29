-- Two rooms joined, and the plan of both as one.
use Rattle.std.specs.Prelude.{◌++◌, map, ℕ, ◌+◌, length}
use Rattle.rooms.specs.Table.{raised, Node, Cord, Server, Room}
use Rattle.deals.specs.Plan.{Plan}

-- A node, a cord and a server behind so many other nodes: the parent that is not 0, and the cords' nodes, are raised by their count.
abbrev pub raised_node : ℕ → Node → Node
raised_node by n = record { parent = raised by n.parent; rating = n.rating; percent = n.percent }

abbrev pub raised_cord : ℕ → Cord → Cord
raised_cord by c = record { node = raised by c.node; share = c.share }

abbrev pub raised_server : ℕ → Server → Server
raised_server by s = record { rank = s.rank; least = s.least; greatest = s.greatest; cords = map (raised_cord by) s.cords }

-- The room of two: the second's nodes behind the first's, and its servers behind the first's.
abbrev pub joined : Room → Room → Room
joined r q = record {
  scale = r.scale;
  nodes = r.nodes ++ map (raised_node (length r.nodes)) q.nodes;
  servers = r.servers ++ map (raised_server (length r.nodes)) q.servers;
}

-- The plan of two, where the first has so many nodes: each list of the first followed by that of the second, whose held nodes are
-- raised, 0 staying 0; the freed watts added up.
abbrev pub joined_plan : ℕ → Plan → Plan → Plan
joined_plan by p q = record {
  freed = p.freed + q.freed;
  grants = p.grants ++ q.grants;
  caps = p.caps ++ q.caps;
  headroom = p.headroom ++ q.headroom;
  held = p.held ++ map (raised by) q.held;
}
