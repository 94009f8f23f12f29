-- What the private functions of `judge` have to go by. No public contract cites these.
use Rattle.std.specs.Prelude.{◌≡◌, List, ℕ, ◌≤◌, length}
use Rattle.rooms.specs.Part.{Good}
use Rattle.rooms.specs.Table.{Room, most_nodes, room_cords}
use Rattle.rooms.specs.Limits.{checked, first_node}
use Rattle.rooms.specs.Lists.{nodes_of, levels_of, lows_of}
use Rattle.rooms.specs.Rows.{OfRoom, NodesFit}
use Rattle.layout.specs.Lists.{HasLowsBeneath}
use Rattle.deals.specs.Wants.{first_wants}
use Rattle.deals.specs.Judge.{below_low, above_want}
use Rattle.judge_totals.specs.Totals.{Notes, CordsNoted}

-- A good table, its count of nodes, and a list with the lows beneath each node.
pub record NodesGiven (table : List ℕ) (nodes : ℕ) (beneath : List ℕ) : Type 0 where
  pub good_table : Good (checked table 0)
  pub nodes-fit : NodesFit table nodes
  pub few : nodes ≤ most_nodes
  pub beneath_long : most_nodes ≤ length beneath
  pub beneath_is : HasLowsBeneath table beneath

-- No cord has less than its low or more than its want, and the notes of all stand on their nodes.
pub record CordsPass (r : Room) (demands grants : List ℕ) (notes : Notes) : Type 0 where
  pub grants_size : length grants ≡ room_cords r
  pub none_below : first_node (room_cords r) 0 (below_low r grants) ≡ 0
  pub none_above : first_node (room_cords r) 0 (above_want r demands grants) ≡ 0
  pub noted : CordsNoted most_nodes (nodes_of r) (levels_of r) (lows_of r) (first_wants r demands) grants notes

-- So it is of a table's room, with some demands and grants.
pub record SomePass (table : List ℕ) (notes : Notes) : Type 0 where
  pub demands : List ℕ
  pub grants : List ℕ
  pub pass : OfRoom table (λ r. CordsPass r demands grants notes)
