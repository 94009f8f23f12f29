-- Dealing: the children of a node, what each gets of the node's amount, and the grants.
--
-- Every cord has its start before anything is dealt, and a node deals what it has over the starts beneath it. In the first deal
-- the starts are the lows, so that the weights are excesses. In the second they are the used watts, and the same rule is request
-- A.2's: a node with Y watts over the lows first passes each child k the used − low watts beneath it, P(k), and splits the rest by
-- the excesses less P(k). Such a weight is Request − Pcapmin − (starts − Pcapmin) = Request − starts. The P(k) sum to the node's
-- own used − low watts, which its parent passed to it in the same way, so that the rest is just the part that it got itself (of a
-- root: its excess less that, its weight). A cord's low, its used − low and its part are its start and its part.
-- (`SecondPassesFirst` in Promises.antt says this of the figures.)
use Rattle.std.specs.Prelude.{Bool, false, cond, List, [], ◌∷◌, ◌++◌, map, ℕ, zero, suc, ◌+◌, ◌-◌, eqb}
use Rattle.figures.specs.Figures.{total, figures_from, figures, cell, sum_of}
use Rattle.splits.specs.Split.{split}
use Rattle.deals.specs.Metrics.{Deal, Metrics, metrics, at_level}

-- ---- The children of a node

-- A child of a node: a child node, or a cord that hangs on the node itself, by its place.
pub data Child : Type 0 where
  node : ℕ → Child
  cord : ℕ → Child

-- Whether two are the same child.
abbrev pub same : Child → Child → Bool
same (node m) (node h) = eqb m h
same (cord c) (cord h) = eqb c h
same (node m) (cord h) = false
same (cord c) (node h) = false

-- Of the k places from j on, those of which a test holds, in order.
unfoldable pub places_from : ℕ → ℕ → (ℕ → Bool) → List ℕ
places_from zero j test = []
places_from (suc k) j test =
    let rest = places_from k (suc j) test in
    cond (test j) (j ∷ rest) rest

-- The children of the node at place n, as a list: first its child nodes, from the lowest number on, then the cords that hang on
-- the node itself, as they come in the table.
unfoldable pub children : Deal → ℕ → List Child
unfolding places_from
children d n =
    map node (places_from d.nodes 0 (λ m. eqb (d.parent m) (suc n)))
    ++ map cord (places_from d.cords 0 (λ c. eqb (d.node c) (suc n)))

-- What a node is to have at a level over the starts beneath it: Request − starts. A cord, at its own level: want − start.
-- (Where each start is the low, these are the excesses.)
abbrev pub node_over : Metrics → ℕ → ℕ → ℕ
node_over f m j = cell f.requests m j - cell f.starts m j

abbrev pub cord_over : Deal → ℕ → ℕ
cord_over d c = d.want c - d.start c

-- A child's weight at level j is what it is to have there over the starts; a cord has none but at its own level.
abbrev pub weight : Deal → Metrics → ℕ → Child → ℕ
weight d f j (node m) = node_over f m j
weight d f j (cord c) = at_level d j (cord_over d) c

-- The weights of the children of the node at place n, and their sum.
unfoldable pub weights_of : Deal → Metrics → ℕ → ℕ → List ℕ
unfolding children
weights_of d f n j = map (weight d f j) (children d n)

unfoldable pub weight_sum : Deal → Metrics → ℕ → ℕ → ℕ
unfolding weights_of total
weight_sum d f n j = sum_of (weights_of d f n j)

-- ---- What reaches a child

-- The figure that stands beside a child, of figures that stand beside a list of children.
unfoldable pub beside : Child → List Child → List ℕ → ℕ
beside child [] figures = 0
beside child (other ∷ others) [] = 0
beside child (other ∷ others) (figure ∷ figures) = cond (same child other) figure (beside child others figures)

-- What a child gets of an amount of its node, which is at place n: the part beside it in the split among all children by their
-- weights.
unfoldable pub part_of : Deal → (Child → ℕ) → ℕ → ℕ → Child → ℕ
unfolding beside children split
part_of d weight n amount child = beside child (children d n) (split amount (map weight (children d n)))

-- By the number of a node: `none` for number 0, else the figure at its place.
abbrev pub by_number : ℕ → ℕ → (ℕ → ℕ) → ℕ
by_number zero none figure = none
by_number (suc n) none figure = figure n

-- The amount of the node at place m, by given weights: a root's is all of its weight, any other's what its parent gives it.
-- (`steps` bounds the way to the root; a parent's number is below its child's, so that m + 1 is enough.)
unfoldable pub node_amount : Deal → (Child → ℕ) → ℕ → ℕ → ℕ
unfolding part_of
node_amount d weight zero m = 0
node_amount d weight (suc steps) m = by_number (d.parent m) (weight (node m)) (λ n. part_of d weight n (node_amount d weight steps n) (node m))

-- The amount that reaches the cord at place c, by given weights: what its node gives it.
unfoldable pub cord_amount : Deal → (Child → ℕ) → ℕ → ℕ
unfolding part_of node_amount
cord_amount d weight c = by_number (d.node c) 0 (λ n. part_of d weight n (node_amount d weight (suc n) n) (cord c))

-- The amount at level j of the node at place m, and what reaches the cord at place c at its own level.
unfoldable pub amount : Deal → Metrics → ℕ → ℕ → ℕ → ℕ
unfolding node_amount
amount d f steps m j = node_amount d (weight d f j) steps m

unfoldable pub reached : Deal → Metrics → ℕ → ℕ
unfolding cord_amount
reached d f c = cord_amount d (weight d f (d.level c)) c

-- The grants of a deal: each cord's start plus the amount that reached it.
unfoldable pub granted : Deal → List ℕ
unfolding figures_from metrics reached
granted d =
    let f = metrics d in
    figures d.cords (λ c. d.start c + reached d f c)
