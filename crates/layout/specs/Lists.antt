-- A room's lists: what the contracts of `load_nodes` and `load_cords` cite.
use Rattle.std.specs.Prelude.{◌≡◌, List, ℕ, ◌<◌, length}
use Rattle.figures.specs.Figures.{at}
use Rattle.rooms.specs.Part.{Good}
use Rattle.rooms.specs.Table.{Room}
use Rattle.rooms.specs.Limits.{lows_beneath, checked}
use Rattle.rooms.specs.Lists.{lows_of}
use Rattle.rooms.specs.Rows.{OfRoom, ServersFit, CordsFit, CordRows}
use Rattle.rooms.specs.declared.lists.CordRow.{CordRow}
use Rattle.deals.specs.Wants.{needs, first_wants}
use Rattle.deals.specs.Headroom.{ceilings_of}

-- A list has at each node's place the lows of all cords beneath the node.
abbrev pub HasLowsBeneath : List ℕ → List ℕ → Type 0
HasLowsBeneath table list = OfRoom table (λ r. (n : ℕ) → n < length r.nodes → at list n ≡ lows_beneath r n)

-- The lists that are lent for a good table's cords and servers are as long as these are many: for each cord its row, its low, its
-- want and its ceiling; for each server its need. There is a demand for each server.
pub record CordsLent (table demands : List ℕ) (cords : List CordRow) (lows wants ceilings needs : List ℕ) : Type 0 where
  pub good_table : Good (checked table 0)
  pub demands_fit : ServersFit table (length demands)
  pub cords-fit : CordsFit table (length cords)
  pub lows_fit : CordsFit table (length lows)
  pub wants_fit : CordsFit table (length wants)
  pub ceilings_fit : CordsFit table (length ceilings)
  pub needs_fit : ServersFit table (length needs)

-- The lists are those of the room's cords and servers, with the wants of the first deal.
pub record CordsLaidOut (r : Room) (demands : List ℕ) (cords : List CordRow) (lows wants ceilings needed : List ℕ) : Type 0 where
  pub rows_are : CordRows r cords
  pub lows_are : lows ≡ lows_of r
  pub wants_are : wants ≡ first_wants r demands
  pub ceilings_are : ceilings ≡ ceilings_of r
  pub needs_are : needed ≡ needs r demands
