-- Figures credited to nodes: what contracts of private functions cite, those behind refusal 9 and those of passes over a room's nodes. No
-- public contract does.
use Rattle.std.specs.Prelude.{◌≡◌, Bool, cond, List, [], ◌∷◌, ℕ, suc, ◌+◌, ◌*◌, ◌≤◌, ◌<◌, length, get_or, ltb}
use Rattle.figures.specs.Credits.{credited}
use Rattle.figures.specs.Figures.{at}
use Rattle.figures.specs.Sums.{sum}
use Rattle.rooms.specs.Part.{Step, good}
use Rattle.rooms.specs.Table.{Node, Cord, Server, Room, most_nodes, node_words}
use Rattle.rooms.specs.Trees.{ParentsFirst, sum_beneath}
use Rattle.rooms.specs.Limits.{limit, low}

-- The node whose words start at an index of a table.
abbrev pub node_from : Bool → List ℕ → ℕ → Node
node_from percents w i = record { parent = get_or w i 0; rating = get_or w (suc i) 0; percent = cond percents (get_or w (suc (suc i)) 0) 80 }

-- The index at which the words of a node start, by its place; and its parent and its limit by those words.
abbrev pub node_index : Bool → ℕ → ℕ
node_index percents m = 2 + node_words percents * m

abbrev pub parent_at : Bool → List ℕ → ℕ → ℕ
parent_at percents w m = get_or w (node_index percents m) 0

abbrev pub limit_at : Bool → List ℕ → ℕ → ℕ
limit_at percents w m = limit (node_from percents w (node_index percents m))

-- The nodes of a good table in its words: they are there, a parent's number is below its child's, and no percent is above 100.
pub record NodesRead (percents : Bool) (w : List ℕ) (count : ℕ) : Type 0 where
  pub few : count ≤ most_nodes
  pub there : node_index percents count ≤ length w
  pub rises : ParentsFirst count (parent_at percents w)
  pub part : (m : ℕ) → m < count → (node_from percents w (node_index percents m)).percent ≤ 100

-- Figures that stand on nodes, summed over a node and all nodes beneath it, at any depth.
abbrev pub tree_sum : (ℕ → ℕ) → ℕ → (ℕ → ℕ) → ℕ → ℕ
tree_sum parent count figure n = sum_beneath count parent count suc n figure

-- Whether what stands on a node and beneath it exceeds its limit.
abbrev pub exceeds : (ℕ → ℕ) → (ℕ → ℕ) → ℕ → List ℕ → ℕ → Bool
exceeds parent limit count sums n = ltb (limit n) (tree_sum parent count (at sums) n)

-- The lows of a server's cords, by the scale and its least, credited to the cords' nodes; and those of all servers, of a room.
unfoldable pub credited_cords : ℕ → ℕ → List Cord → List ℕ → List ℕ
credited_cords scale least [] l = l
credited_cords scale least (c ∷ cs) l = credited_cords scale least cs (credited c.node (low scale least c) l)

abbrev pub credited_server : ℕ → Server → List ℕ → List ℕ
credited_server scale s = credited_cords scale s.least s.cords

unfoldable pub credited_servers : ℕ → List Server → List ℕ → List ℕ
credited_servers scale [] l = l
credited_servers scale (s ∷ ss) l = credited_servers scale ss (credited_server scale s l)

abbrev pub credited_room : Room → List ℕ → List ℕ
credited_room r = credited_servers r.scale r.servers

-- What a check of a part leaves in the sums, if the part is good: its cords' lows are credited, and all sums together have grown by
-- no more than `most`. Else nothing is claimed.
pub record LowsCredited {A : Type 0} (step : Step A) (credit : A → List ℕ → List ℕ) (node_count most : ℕ) (sums sums' : List ℕ) : Type 0 where
  pub are : (a : A) (j : ℕ) → step ≡ good a j → sums' ≡ credit a sums
  pub grow : (a : A) (j : ℕ) → step ≡ good a j → sum node_count (at sums') ≤ sum node_count (at sums) + most

-- What the sums come to where each node's sum, from the last node to the first, is credited to its parent: a node has what stood on it
-- and beneath it, and past the nodes nothing changes.
pub record SumsGathered (parent : ℕ → ℕ) (count : ℕ) (sums sums' : List ℕ) : Type 0 where
  pub size : length sums' ≡ length sums
  pub nodes : (n : ℕ) → n < count → get_or sums' n 0 ≡ tree_sum parent count (at sums) n
  pub past : (n : ℕ) → count ≤ n → get_or sums' n 0 ≡ get_or sums n 0
