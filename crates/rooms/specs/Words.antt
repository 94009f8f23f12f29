-- A room as the words of its table, and which rooms have one: those whose counts and figures are in the table's ranges.
use Rattle.std.specs.Prelude.{◌≡◌, Bool, true, cond, ◌||◌, List, [], ◌∷◌, ◌++◌, ℕ, suc, ◌-◌, ◌≤◌, ◌<◌, length, get_or, eqb}
use Rattle.rooms.specs.Table.{Node, Cord, Server, Room, newest_version, form_of, most_watts, most_nodes, most_servers, most_cords, most_server_cords}
use Rattle.rooms.specs.Table.{highest_rank, cord_count, room_cords, share_sum}
use Rattle.rooms.specs.Limits.{node_at}
use Rattle.rooms.specs.Cords.{server_at}

-- ---- The words

-- The words of each of a row, one after the other.
unfoldable pub row_words : {A : Type 0} → (A → List ℕ) → List A → List ℕ
row_words words [] = []
row_words words (a ∷ l) = words a ++ row_words words l

-- Parent and rating of a node, and its percent where the version has a word for it.
abbrev pub words_of_node : Bool → Node → List ℕ
words_of_node percents n = n.parent ∷ n.rating ∷ cond percents (n.percent ∷ []) []

-- Node and share of a cord.
abbrev pub words_of_cord : Cord → List ℕ
words_of_cord c = c.node ∷ c.share ∷ []

-- Rank, least, greatest and count of cords of a server, and then its cords.
abbrev pub words_of_server : Server → List ℕ
words_of_server s = s.rank ∷ s.least ∷ s.greatest ∷ cord_count s ∷ row_words words_of_cord s.cords

-- The table of a room in a version.
abbrev pub table_of : ℕ → Room → List ℕ
table_of version r =
    version ∷ length r.nodes
    ∷ (row_words (words_of_node (form_of version).percents) r.nodes ++ (length r.servers ∷ row_words words_of_server r.servers))

-- ---- The ranges

-- A percent that a node may have: 80, or where it has a word for it, also 100.
abbrev pub PercentFits : Bool → ℕ → Type 0
PercentFits percents p = cond percents (eqb p 80 || eqb p 100) (eqb p 80) ≡ true

-- A node by its own number: its parent's is below it.
pub record NodeInRange (percents : Bool) (own : ℕ) (n : Node) : Type 0 where
  pub parent : n.parent ≤ own - 1
  pub rating : n.rating ≤ most_watts
  pub percent : PercentFits percents n.percent

-- A cord of a room of such a scale and so many nodes.
pub record CordInRange (scale node_count : ℕ) (c : Cord) : Type 0 where
  pub node : (1 ≤ c.node) × (c.node ≤ node_count)
  pub share : c.share ≤ scale

-- A server of such a room; its cords by place.
pub record ServerInRange (scale node_count : ℕ) (s : Server) : Type 0 where
  pub rank : (1 ≤ s.rank) × (s.rank ≤ highest_rank)
  pub ordered : s.least ≤ s.greatest
  pub greatest : s.greatest ≤ most_watts
  pub count : (1 ≤ cord_count s) × (cord_count s ≤ most_server_cords)
  pub shares : share_sum s.cords ≡ scale
  pub cords : (k : ℕ) → k < cord_count s → CordInRange scale node_count (get_or s.cords k (record { node = 0; share = 0 }))

-- A room in a version; its nodes and servers by place. (Of the limits nothing is said: they are checked after the words.)
pub record RoomInRange (version : ℕ) (r : Room) : Type 0 where
  pub versioned : (1 ≤ version) × (version ≤ newest_version)
  pub scaled : r.scale ≡ (form_of version).scale
  pub node_count : (1 ≤ length r.nodes) × (length r.nodes ≤ most_nodes)
  pub nodes : (m : ℕ) → m < length r.nodes → NodeInRange (form_of version).percents (suc m) (node_at r m)
  pub server_count : length r.servers ≤ most_servers
  pub servers : (v : ℕ) → v < length r.servers → ServerInRange r.scale (length r.nodes) (server_at r v)
  pub few_cords : room_cords r ≤ most_cords
