-- The passes of one rank over its nodes and cords: what the contracts of `metrics` and `dealing` cite. Figures stand in lists, by the
-- places of nodes or cords.
use Rattle.std.specs.Prelude.{◌≡◌, List, ℕ, suc, ◌+◌, ◌-◌, ◌*◌, ◌/◌, ◌≤◌, ◌<◌, min, max, ltb, length}
use Rattle.figures.specs.Sums.{on, sum}
use Rattle.rooms.specs.Table.{most_nodes, most_cords, most_watts, highest_rank}
use Rattle.rooms.specs.Credits.{tree_sum}
use Rattle.figures.specs.Figures.{at, cell}
use Rattle.splits.specs.Split.{part}
use Rattle.figures.specs.Places.{Absent, Present, Full}
use Rattle.deals.specs.Levels.{ActiveNodes}
use Rattle.rooms.specs.Trees.{child_sum, ParentsFirst}

-- The cords of a level, listed by their places, in a room of so many nodes; and for each cord its node's number, its start and its
-- want.
pub record LevelCords (node_count : ℕ) (listed nodes starts wants : List ℕ) : Type 0 where
  pub few : length listed ≤ most_cords
  pub starts_size : length starts ≡ length nodes
  pub wants_size : length wants ≡ length nodes
  pub within : (i : ℕ) → i < length listed → at listed i < length nodes
  pub rises : (i k : ℕ) → i < k → k < length listed → at listed i < at listed k
  pub hangs : (i : ℕ) → i < length listed → 1 ≤ at nodes (at listed i)
  pub there : (i : ℕ) → i < length listed → at nodes (at listed i) ≤ node_count
  pub ordered : (i : ℕ) → i < length listed → at starts (at listed i) ≤ at wants (at listed i)
  pub most : (i : ℕ) → i < length listed → at wants (at listed i) ≤ most_watts

-- A figure of the cords, summed over the first i listed ones that hang on the node at place n.
abbrev pub listed_before : List ℕ → List ℕ → (ℕ → ℕ) → ℕ → ℕ → ℕ
listed_before listed nodes figure n i = child_sum i (λ h. at nodes (at listed h)) n (λ h. figure (at listed h))

-- Over all listed ones.
abbrev pub over_listed : List ℕ → List ℕ → (ℕ → ℕ) → ℕ → ℕ
over_listed listed nodes figure n = listed_before listed nodes figure n (length listed)

-- The weight of a cord: want less start.
abbrev pub cord_weight : List ℕ → List ℕ → ℕ → ℕ
cord_weight starts wants c = at wants c - at starts c

-- The starts and the weights of the listed cords are summed on their nodes.
pub record CordsSummed (node_count : ℕ) (listed nodes starts wants bases wholes : List ℕ) : Type 0 where
  pub on_starts : (n : ℕ) → n < node_count → at bases n ≡ over_listed listed nodes (at starts) n
  pub on_weights : (n : ℕ) → n < node_count → at wholes n ≡ over_listed listed nodes (cord_weight starts wants) n

-- A row for each place of a node, with a figure for each level.
abbrev pub FullRows : List (List ℕ) → Type 0
FullRows = Full most_nodes highest_rank

-- The weight of the node at place m in the split at its parent: its children's weights, cut to what is left of its limit. Where the cut
-- weights stand in a list, cutting them again changes none.
abbrev pub weight_of : List ℕ → List ℕ → ℕ → ℕ
weight_of left wholes m = min (at left m) (at wholes m)

-- The mark of a node's cuts after a level: the highest rank at which what was left of its limit, or its weight, was less than its
-- children's weights; 0 if there was none. (A rank is its level + 1; the levels come from the highest down.)
abbrev pub cut_mark : (mark level left whole : ℕ) → ℕ
cut_mark mark level left whole = max mark (on (ltb left whole) (suc level))

-- The active nodes have their weights in a list; a node that is not active has no children with weight.
pub record WeightsListed (parents active : List ℕ) (count : ℕ) (wholes weights : List ℕ) : Type 0 where
  pub nodes : ActiveNodes parents active count
  pub wholes_size : length parents ≤ length wholes
  pub weights_size : length parents ≤ length weights
  pub within : (n : ℕ) → n < length parents → Present active count n → at weights n ≤ at wholes n
  pub idle : (n : ℕ) → n < length parents → Absent active count n → at wholes n ≡ 0

-- What the weights of a rank are gathered from: what is left of each limit, and the weights of the cords on each node, which together are
-- no more than the most cords can weigh. On a node that is not active there are none.
pub record MayWeigh (parents active : List ℕ) (count : ℕ) (left own : List ℕ) (weights_length : ℕ) : Type 0 where
  pub nodes : ActiveNodes parents active count
  pub rises : ParentsFirst (length parents) (at parents)
  pub left_size : length left ≡ length parents
  pub own_fit : (length parents ≤ length own) × (sum (length parents) (at own) ≤ most_cords * most_watts)
  pub weights_size : length parents ≤ weights_length
  pub idle : (n : ℕ) → n < length parents → Absent active count n → at own n ≡ 0

-- From what is left of each limit over the Requests of higher ranks and the starts of this rank and those below, and the weights of the
-- cords on each node: the children's weights at this rank, the active nodes' weights, and what is left for the next.
pub record Weighed (parents active : List ℕ) (count : ℕ) (left own left' wholes weights : List ℕ) : Type 0 where
  pub children : (n : ℕ) → n < length parents → at wholes n ≡ at own n + child_sum (length parents) (at parents) n (weight_of left wholes)
  pub left_is : (n : ℕ) → n < length parents → at left' n ≡ at left n - at wholes n
  pub weights_are : (n : ℕ) → n < length parents → weight_of weights wholes n ≡ weight_of left wholes n
  pub listed : WeightsListed parents active count wholes weights

-- What the Requests of a rank are made from, beside the weights: the starts of the cords on each node, which with what is left of a limit
-- are in range. A node that is not active has none, and 0 in its row.
pub record MayRequest (parents active : List ℕ) (count level : ℕ) (left cuts starts : List ℕ) (rows : List (List ℕ)) : Type 0 where
  pub few : length parents ≤ most_nodes
  pub ranked : level < highest_rank
  pub cuts_size : length cuts ≡ length parents
  pub starts_fit : (length parents ≤ length starts) × (sum (length parents) (at starts) ≤ most_cords * most_watts)
  pub enough : (n : ℕ) → n < length parents → tree_sum (at parents) (length parents) (at starts) n + at left n ≤ most_watts
  pub idle : (n : ℕ) → n < length parents → Absent active count n → (at starts n ≡ 0) × (cell rows n level ≡ 0)
  pub full : FullRows rows

-- From the nodes' weights and the cords' starts on each node: the Requests in their column of the rows, the marks of the cuts, and zeros
-- for the next rank's starts.
pub record Requested (parents : List ℕ) (level : ℕ) (left wholes cuts starts : List ℕ) (rows : List (List ℕ))
    (cuts' starts' : List ℕ) (rows' : List (List ℕ)) : Type 0 where
  pub request : (n : ℕ) → n < length parents
      → cell rows' n level ≡ tree_sum (at parents) (length parents) (at starts) n + weight_of left wholes n
  pub others : (n j : ℕ) → (j ≡ level → ⊥) → cell rows' n j ≡ cell rows n j
  pub cuts_are : (n : ℕ) → n < length parents → at cuts' n ≡ cut_mark (at cuts n) level (weight_of left wholes n) (at wholes n)
  pub cleared : (n : ℕ) → n < length parents → at starts' n ≡ 0
  pub full : FullRows rows'

-- What each active node has to give, the weights of its child nodes, and what these were dealt together.
pub record NodesDealt (parents active : List ℕ) (count : ℕ) (weight : ℕ → ℕ) (wholes amounts before dealt : List ℕ) : Type 0 where
  pub root : (m : ℕ) → m < length parents → Present active count m → at parents m ≡ 0 → at amounts m ≡ weight m
  pub inner : (m n : ℕ) → m < length parents → Present active count m → at parents m ≡ suc n
      → at amounts m ≡ part (at amounts n) (at wholes n) (child_sum m (at parents) n weight) (weight m)
  pub most : (m : ℕ) → m < length parents → Present active count m → at amounts m ≤ weight m
  pub served : (n : ℕ) → n < length parents → Present active count n → at before n ≡ child_sum (length parents) (at parents) n weight
  pub dealt_is : (n : ℕ) → n < length parents → Present active count n → at dealt n ≡ at amounts n * at before n / at wholes n

-- The grants after a rank: a listed cord has its start and its part of its node's amount, every other what it had.
pub record CordsDealt (listed nodes starts wants wholes amounts before grants grants' : List ℕ) : Type 0 where
  pub ours : (i n : ℕ) → i < length listed → at nodes (at listed i) ≡ suc n
      → at grants' (at listed i)
      ≡ at starts (at listed i)
      + part (at amounts n) (at wholes n) (at before n + listed_before listed nodes (cord_weight starts wants) n i)
      (cord_weight starts wants (at listed i))
  pub others : (c : ℕ) → c < length nodes → Absent listed (length listed) c → at grants' c ≡ at grants c
