-- The nodes that hold cords down, from the marks of the nodes' cuts: what the contracts of `holders` cite.
use Rattle.std.specs.Prelude.{◌≡◌, cond, List, ℕ, suc, ◌≤◌, ◌<◌, eqb, ltb, length}
use Rattle.figures.specs.Figures.{figures, at, cell}
use Rattle.figures.specs.Sums.{on}
use Rattle.figures.specs.Places.{Full}
use Rattle.rooms.specs.Table.{most_nodes, most_cords, highest_rank}
use Rattle.rooms.specs.Rows.{cord_row_at}
use Rattle.deals.specs.Held.{nearest_root}
use Rattle.rooms.specs.Trees.{ParentsFirst}
use Rattle.rooms.specs.declared.lists.CordRow.{CordRow}

-- The nodes of a room: for each its parent's number and the highest rank at which it is cut.
pub record CutNodes (parents cuts : List ℕ) : Type 0 where
  pub few : length parents ≤ most_nodes
  pub rises : ParentsFirst (length parents) (at parents)
  pub cuts_size : length cuts ≡ length parents

-- The lists after a deal: the nodes' parents and the highest rank at which each is cut, and the cords' rows, wants and grants.
pub record HeldLists (parents cuts : List ℕ) (cords : List CordRow) (wants grants : List ℕ) : Type 0 where
  pub of_nodes : CutNodes parents cuts
  pub few : length cords ≤ most_cords
  pub wants_size : length wants ≡ length cords
  pub grants_size : length grants ≡ length cords
  pub hangs : (c : ℕ) → c < length cords → 1 ≤ (cord_row_at cords c).node
  pub within : (c : ℕ) → c < length cords → (cord_row_at cords c).node ≤ length parents
  pub ranked : (c : ℕ) → c < length cords → (cord_row_at cords c).level < highest_rank

-- The number of the node nearest the root, from node number v on, that is cut at a level or a higher one (a rank is its level + 1).
abbrev pub holder_from : List ℕ → List ℕ → ℕ → ℕ → ℕ
holder_from parents cuts level v = nearest_root (at parents) (λ n. ltb level (at cuts n)) (length parents) v

-- For each cord: 0 if its grant is its want, else the number of the node that holds it.
abbrev pub held_from : List ℕ → List ℕ → List CordRow → List ℕ → List ℕ → List ℕ
held_from parents cuts cords wants grants =
    figures (length cords)
    (λ c. cond (eqb (at grants c) (at wants c)) 0 (holder_from parents cuts (cord_row_at cords c).level (cord_row_at cords c).node))

-- ---- The holders of all nodes and levels

-- A row for each node's number and one for 0, which is no node's, with a figure for each level.
abbrev pub RowsByNumber : List (List ℕ) → Type 0
RowsByNumber = Full (suc most_nodes) highest_rank

-- The row of a node, from that of its parent: at each level the number from above, unless that is 0, or else the node's own if it is cut
-- at the level or a higher one.
abbrev pub next_row : List ℕ → ℕ → ℕ → List ℕ
next_row above cut number = figures highest_rank (λ j. cond (eqb (at above j) 0) (on (ltb j cut) number) (at above j))

-- Each number's row has the holder at each level.
pub record HolderRows (parents cuts : List ℕ) (rows : List (List ℕ)) : Type 0 where
  pub full : RowsByNumber rows
  pub named : (v j : ℕ) → v ≤ length parents → j < highest_rank → cell rows v j ≡ holder_from parents cuts j v
