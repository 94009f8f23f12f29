-- The trees of a room, and sums over what hangs in them. Nodes and cords stand at places, counted from 0. What a node or a cord hangs on
-- is told by a node's number: its place plus one, or 0 for none.
use Rattle.std.specs.Prelude.{Bool, false, ◌||◌, ℕ, zero, suc, ◌≤◌, ◌<◌, eqb}
use Rattle.figures.specs.Sums.{on, sum}

-- Parents come first: a parent's number is below its child's, and so at most its child's place.
abbrev pub ParentsFirst : ℕ → (ℕ → ℕ) → Type 0
ParentsFirst nodes parent = (m : ℕ) → m < nodes → parent m ≤ m

-- Whether the way from node number v along the parents, of at most so many steps, meets the node at place n.
-- Number 0 is no node, and ends the way.
unfoldable pub beneath : (ℕ → ℕ) → ℕ → ℕ → ℕ → Bool
beneath parent zero n v = false
beneath parent (suc steps) n zero = false
beneath parent (suc steps) n (suc m) = eqb m n || beneath parent steps n (parent m)

-- A figure, summed over the children of the node at place n: of so many nodes or cords, those that hang on it itself. (`hangs` is the number
-- that each hangs on: a node's parent, a cord's node.)
abbrev pub child_sum : ℕ → (ℕ → ℕ) → ℕ → (ℕ → ℕ) → ℕ
child_sum count hangs n figure = sum count (λ i. on (eqb (hangs i) (suc n)) (figure i))

-- Summed over those that hang beneath that node, at any depth, where there are so many nodes.
-- (No way is longer than the count of nodes, where parents come first.)
unfoldable pub sum_beneath : ℕ → (ℕ → ℕ) → ℕ → (ℕ → ℕ) → ℕ → (ℕ → ℕ) → ℕ
unfolding beneath
sum_beneath nodes parent count hangs n figure = sum count (λ i. on (beneath parent nodes n (hangs i)) (figure i))
