-- Trees, and ways of dealing them: what ours is compared with.
use Rattle.std.specs.Prelude.{◌≡◌, Bool, true, List, ℕ, suc, ◌≤◌, ◌<◌, leb, length}
use Rattle.figures.specs.Sums.{on}
use Rattle.rooms.specs.Table.{Room, room_cords}
use Rattle.rooms.specs.Trees.{sum_beneath}
use Rattle.rooms.specs.Limits.{limit, node_at, parent_of, hangs_beneath}
use Rattle.figures.specs.Figures.{at}
use Rattle.rooms.specs.Cords.{cord_at, rank_of}
use Rattle.rooms.specs.Lists.{lows_of}

-- A root is a node with parent 0. Its tree is the root with every node beneath it.
pub record Root (r : Room) (n : ℕ) : Type 0 where
  pub node : n < length r.nodes
  pub top : parent_of r n ≡ 0

-- Whether the cord at place c is beneath the node at place n, at any depth.
abbrev pub cord_beneath : Room → ℕ → ℕ → Bool
cord_beneath r n c = hangs_beneath r n (cord_at r c).node

-- Whether the node at place m is the node at place n or beneath it, at any depth.
abbrev pub node_beneath : Room → ℕ → ℕ → Bool
node_beneath r n m = hangs_beneath r n (suc m)

-- The watts of all cords beneath the node at place n, at any depth, summed.
abbrev pub watts_beneath : Room → ℕ → (ℕ → ℕ) → ℕ
watts_beneath r n watts = sum_beneath (length r.nodes) (parent_of r) (room_cords r) (λ c. (cord_at r c).node) n watts

-- The figures of the cords of a rank and above; 0 for the others.
abbrev pub from_rank : Room → ℕ → List ℕ → ℕ → ℕ
from_rank r rank watts c = on (leb rank (rank_of r c)) (at watts c)

-- A way of dealing the tree of a root, by given wants: whole watts for the cords, by their places in the table. Those of the
-- tree's cords lie from low to want, and those beneath each node of the tree sum to no more than its limit. Nothing is asked of
-- the watts of other cords.
pub record Way (r : Room) (root : ℕ) (wants watts : List ℕ) : Type 0 where
  pub least : (c : ℕ) → c < room_cords r → cord_beneath r root c ≡ true → at (lows_of r) c ≤ at watts c
  pub most : (c : ℕ) → c < room_cords r → cord_beneath r root c ≡ true → at watts c ≤ at wants c
  pub within : (n : ℕ) → n < length r.nodes → node_beneath r root n ≡ true → watts_beneath r n (at watts) ≤ limit (node_at r n)
