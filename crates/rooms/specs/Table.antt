-- The room table: its words in order with their ranges, and the room that they give.
use Rattle.std.specs.Prelude.{Bool, true, false, cond, ◌||◌, List, ℕ, zero, suc, ◌+◌, ◌-◌, ◌*◌, ◌≤◌, min, length, leb, ltb, eqb}
use Rattle.rooms.specs.Part.{Part, ◌>>=◌, give, here, within, word, ensure, end, many}
use Rattle.figures.specs.Figures.{total}
use Rattle.rooms.specs.declared.SheetRefusal.TheVariants.{WordOutOfRange, GreatestBelowLeast, SharesNotWhole}

-- ---- The room

-- A breaker or transformer. The parent is a node's number, counted from 1, or 0 at the root of a tree. Of its rating it may carry
-- so many percent.
pub record Node : Type 0 where
  pub parent : ℕ
  pub rating : ℕ
  pub percent : ℕ

-- The number that a node has behind so many others; 0, which is no node, stays 0.
abbrev pub raised : ℕ → ℕ → ℕ
raised by zero = 0
raised by (suc m) = suc (m + by)

-- A cord hangs on a node, named by its number, and carries a share of its server's load.
pub record Cord : Type 0 where
  pub node : ℕ
  pub share : ℕ

pub record Server : Type 0 where
  pub rank : ℕ
  pub least : ℕ
  pub greatest : ℕ
  pub cords : List Cord

-- The scale is the whole of a server's load, in shares.
pub record Room : Type 0 where
  pub scale : ℕ
  pub nodes : List Node
  pub servers : List Server

-- ---- Versions

-- What a version says of a table: whether each node has a third word, its percent, and the room's scale.
pub record Form : Type 0 where
  pub percents : Bool
  pub scale : ℕ

-- The good versions are 1 to this one.
abbrev pub newest_version : ℕ
newest_version = 3

-- From version 2 on a node has its percent, and from version 3 on shares are finer: 10,000 of them are the whole, where 1,000 were.
unfoldable pub form_of : ℕ → Form
form_of version = record { percents = ltb 1 version; scale = cond (ltb 2 version) 10000 1000 }

-- The words of a node: parent and rating, and its percent where it has a word.
abbrev pub node_words : Bool → ℕ
node_words percents = cond percents 3 2

-- The most words of a node in any good version, and a bound of every version's scale: a share fits 16 bits.
abbrev pub most_node_words : ℕ
most_node_words = 3

abbrev pub most_scale : ℕ
most_scale = 65535

-- A figure that may be a scale.
abbrev pub IsScale : ℕ → Type 0
IsScale scale = (1 ≤ scale) × (scale ≤ most_scale)

-- ---- Figures of the table

-- The most nodes, servers, cords in a room, cords of a server, ranks, and watts in a word.
abbrev pub most_nodes : ℕ
most_nodes = 512

abbrev pub most_servers : ℕ
most_servers = 512

abbrev pub most_cords : ℕ
most_cords = 1024

abbrev pub most_server_cords : ℕ
most_server_cords = 4

abbrev pub highest_rank : ℕ
highest_rank = 16

abbrev pub most_watts : ℕ
most_watts = 16777215

-- The most words of a table: version, count of nodes, the nodes, count of servers, four words a server and two a cord. One word
-- more decides every check of a table (`FirstWordsDecide`, Promises.antt).
abbrev pub most_words : ℕ
most_words = 2 + most_node_words * most_nodes + 1 + 4 * most_servers + 2 * most_cords

-- How many cords a server has, and how many the room has.
abbrev pub cord_count : Server → ℕ
cord_count s = length s.cords

abbrev pub room_cords : Room → ℕ
room_cords r = total cord_count r.servers

-- A cord's share, and the shares of some cords, summed.
abbrev pub share_of : Cord → ℕ
share_of c = c.share

abbrev pub share_sum : List Cord → ℕ
share_sum = total share_of

-- ---- The words

abbrev pub watts : Part ℕ
watts = word (within 0 most_watts)

-- The percent of a node: 80, or its word, which is 80 or 100.
unfoldable pub percent : Bool → Part ℕ
percent false = give 80
percent true = do
  place ← here
  percent ← word (within 80 100)
  _ ← ensure (eqb percent 80 || eqb percent 100) (WordOutOfRange place)
  give percent

-- A node with its own number: parent, rating in watts, percent.
unfoldable pub node : Bool → ℕ → Part Node
node percents own = do
  parent ← word (within 0 (own - 1))
  rating ← watts
  percent ← percent percents
  give (record { parent = parent; rating = rating; percent = percent })

-- So many nodes, numbered from `own` on.
abbrev pub nodes : Bool → ℕ → ℕ → Part (List Node)
nodes percents count own = many count (node percents) (λ own _. suc own) own

-- A cord in a room of so many nodes: node, share.
unfoldable pub cord : ℕ → ℕ → Part Cord
cord scale node_count = do
  node ← word (within 1 node_count)
  share ← word (within 0 scale)
  give (record { node = node; share = share })

-- So many cords. (A cord is given nothing: the number stays 0.)
abbrev pub cords : ℕ → ℕ → ℕ → Part (List Cord)
cords scale node_count count = many count (λ _. cord scale node_count) (λ given _. given) 0

-- Least and greatest of a server.
pub record Range : Type 0 where
  pub least : ℕ
  pub greatest : ℕ

-- (What the check of a range tells.)
abbrev pub least_of : Range → ℕ
least_of r = r.least

unfoldable pub range : Part Range
range = do
  least ← watts
  place ← here
  greatest ← watts
  _ ← ensure (leb least greatest) (GreatestBelowLeast place)
  give (record { least = least; greatest = greatest })

-- A server's count of cords and its cords, where the room has `before` cords so far; `start` is the index of its rank.
unfoldable pub load : ℕ → ℕ → ℕ → ℕ → Part (List Cord)
load scale node_count before start = do
  count ← word (within 1 (min most_server_cords (most_cords - before)))
  cords ← cords scale node_count count
  _ ← ensure (eqb (share_sum cords) scale) (SharesNotWhole start)
  give cords

-- A server: rank, least, greatest, count of cords; then its cords.
unfoldable pub server : ℕ → ℕ → ℕ → Part Server
server scale node_count before = do
  start ← here
  rank ← word (within 1 highest_rank)
  range ← range
  cords ← load scale node_count before start
  give (record { rank = rank; least = range.least; greatest = range.greatest; cords = cords })

-- So many servers, where the room has `before` cords so far.
abbrev pub servers : ℕ → ℕ → ℕ → ℕ → Part (List Server)
servers scale node_count count before = many count (server scale node_count) (λ before s. before + cord_count s) before

-- The table: version, count of nodes, the nodes, count of servers, the servers, and nothing after them.
unfoldable pub table : Part Room
table = do
  version ← word (within 1 newest_version)
  node_count ← word (within 1 most_nodes)
  nodes ← nodes (form_of version).percents node_count 1
  server_count ← word (within 0 most_servers)
  servers ← servers (form_of version).scale node_count server_count 0
  _ ← end
  give (record { scale = (form_of version).scale; nodes = nodes; servers = servers })
