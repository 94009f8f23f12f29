-- What contracts of private functions cite.
use Rattle.std.specs.Prelude.{List, ℕ}
use Rattle.figures.specs.Figures.{at}
use Rattle.rooms.specs.Table.{form_of}
use Rattle.rooms.specs.Credits.{node_index}

-- The index of the count of servers.
abbrev pub servers_index : List ℕ → ℕ
servers_index table = node_index (form_of (at table 0)).percents (at table 1)
