-- The room's cords in table order, each with its server.
use Rattle.std.specs.Prelude.{List, [], ◌∷◌, ◌++◌, ℕ, suc, get_or}
use Rattle.rooms.specs.Table.{Cord, Server, Room}

-- A cord of the room: the place of its server, counted from 0, its node's number, and its share.
pub record RoomCord : Type 0 where
  pub server : ℕ
  pub node : ℕ
  pub share : ℕ

-- The cords of the server at place v.
unfoldable pub server_cords : ℕ → List Cord → List RoomCord
server_cords v [] = []
server_cords v (c ∷ rest) = record { server = v; node = c.node; share = c.share } ∷ server_cords v rest

-- The cords of some servers, whose places start at v.
unfoldable pub cords_from : ℕ → List Server → List RoomCord
unfolding server_cords
cords_from v [] = []
cords_from v (s ∷ rest) = server_cords v s.cords ++ cords_from (suc v) rest

-- The cords of the room, in table order.
abbrev pub cords_of : Room → List RoomCord
cords_of r = cords_from 0 r.servers

-- The cord at a place of that order.
abbrev pub cord_at : Room → ℕ → RoomCord
cord_at r c = get_or (cords_of r) c (record { server = 0; node = 0; share = 0 })

-- The server at a place.
abbrev pub server_at : Room → ℕ → Server
server_at r v = get_or r.servers v (record { rank = 0; least = 0; greatest = 0; cords = [] })

-- The server of a cord, and the rank that it has from there.
abbrev pub server_of : Room → ℕ → Server
server_of r c = server_at r (cord_at r c).server

abbrev pub rank_of : Room → ℕ → ℕ
rank_of r c = (server_of r c).rank
