-- The node that holds a cord down (request A.5): of the nodes above the cord, the nearest to the root that is cut at the cord's rank or a
-- higher one, in the second deal.
use Rattle.std.specs.Prelude.{Bool, false, cond, ◌||◌, List, ℕ, zero, suc, ◌-◌, eqb, ltb}
use Rattle.figures.specs.Figures.{figures_from, figures, at, cell}
use Rattle.figures.specs.Sums.{on, sum}
use Rattle.rooms.specs.Table.{Room}
use Rattle.deals.specs.Metrics.{Deal, Metrics, at_level, metrics, over_children}
use Rattle.deals.specs.Dealing.{granted}
use Rattle.deals.specs.SecondDeal.{second_deal}

-- ---- Where a node is cut

-- The Requests at level j of the children of the node at place n, summed; a cord's Request is its want.
abbrev pub child_requests : Deal → Metrics → ℕ → ℕ → ℕ
child_requests d f n j = over_children d n (λ m. cell f.requests m j) (at_level d j d.want)

-- Whether the node at place n is cut at level j: its Request is less than its children's sum there.
abbrev pub cut_at : Deal → Metrics → ℕ → ℕ → Bool
cut_at d f n j = ltb (cell f.requests n j) (child_requests d f n j)

-- Whether a test holds of some of the k levels from level j on.
unfoldable pub some_from : ℕ → ℕ → (ℕ → Bool) → Bool
some_from zero j test = false
some_from (suc k) j test = test j || some_from k (suc j) test

-- Whether the node at place n is cut at level j or a higher one.
unfoldable pub cut_from : Deal → Metrics → ℕ → ℕ → Bool
unfolding some_from sum
cut_from d f j n = some_from (d.levels - j) j (cut_at d f n)

-- ---- The node nearest the root

-- On the way from node number v along the parents, of at most so many steps: the number of the last node met of which a test holds, and
-- so of the nearest to the root; 0 if there is none. (Number 0 is no node, and ends the way, as in `beneath`.)
unfoldable pub nearest_root : (ℕ → ℕ) → (ℕ → Bool) → ℕ → ℕ → ℕ
nearest_root parent test zero v = 0
nearest_root parent test (suc steps) zero = 0
nearest_root parent test (suc steps) (suc m) =
    let above = nearest_root parent test steps (parent m) in
    cond (eqb above 0) (on (test m) (suc m)) above

-- The node that holds the cord at place c.
-- (No way is longer than the count of nodes, since a parent's number is below its child's.)
unfoldable pub holder : Deal → Metrics → ℕ → ℕ
unfolding nearest_root cut_from
holder d f c = nearest_root d.parent (cut_from d f (d.level c)) d.nodes (d.node c)

-- For each cord of a deal: 0 if its grant is its want, else the number of the node that holds it.
unfoldable pub held_over : Deal → List ℕ
unfolding figures_from metrics granted holder
held_over d =
    let f = metrics d in
    let grants = granted d in
    figures d.cords (λ c. cond (eqb (at grants c) (d.want c)) 0 (holder d f c))

-- For each cord of a room with given demands, by the second deal.
unfoldable pub held : Room → List ℕ → List ℕ
unfolding second_deal held_over
held r demands = held_over (second_deal r demands)
