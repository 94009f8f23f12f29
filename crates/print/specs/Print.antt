-- The whole print of a plan: a line for the freed watts, and for each server a line with its cap, followed by one for each cord.
use Rattle.std.specs.Prelude.{List, [], ◌∷◌, ◌++◌, ℕ, zero, suc, ◌+◌, get_or}
use Rattle.rooms.specs.Table.{Cord, Server, cord_count}
use Rattle.print.specs.Line.{freed_line, server_line, cord_line}

-- So many lines, of the places from k on.
unfoldable pub lines_from : ℕ → ℕ → (ℕ → List ℕ) → List ℕ
lines_from zero k line = []
lines_from (suc count) k line = line k ++ lines_from count (k + 1) line

-- The figure at a place of a list.
abbrev pub at : List ℕ → ℕ → ℕ
at figures place = get_or figures place 0

-- A server and its cords: its number and cap, how many cords, and the line of each by its place among them.
unfoldable pub server_print : ℕ → ℕ → ℕ → (ℕ → List ℕ) → List ℕ
server_print number cap count line = server_line number cap ++ lines_from count 0 line

-- The node of the cord at a place.
abbrev pub node_at : List Cord → ℕ → ℕ
node_at cords k = (get_or cords k (record { node = 0; share = 0 })).node

-- Some servers, the first at place v, and its first cord at place c of the room's. The line of a cord is by its number, its node and
-- its place.
unfoldable pub servers_print : List ℕ → (ℕ → ℕ → ℕ → List ℕ) → ℕ → ℕ → List Server → List ℕ
servers_print caps line v c [] = []
servers_print caps line v c (s ∷ rest) =
    server_print (v + 1) (at caps v) (cord_count s) (λ k. line (k + 1) (node_at s.cords k) (c + k))
    ++ servers_print caps line (v + 1) (c + cord_count s) rest

-- The line of a cord, by what a plan's lists have at its place.
abbrev pub plan_line : (grants headroom held : List ℕ) → ℕ → ℕ → ℕ → List ℕ
plan_line grants headroom held number node place = cord_line number node (at grants place) (at headroom place) (at held place)

-- The print of a plan.
unfoldable pub print_of : ℕ → List Server → (caps grants headroom held : List ℕ) → List ℕ
print_of freed servers caps grants headroom held = freed_line freed ++ servers_print caps (plan_line grants headroom held) 0 0 servers
