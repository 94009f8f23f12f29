-- The print of a plan, by a walk over the rows of a room's servers and cords. Of such rows it is the print of the room (Promises).
-- These definitions hold for all rows: a figure that is missing counts as 0, and no more servers and cords are printed than a room
-- and a server may have.
use Rattle.std.specs.Prelude.{List, [], ◌++◌, ℕ, zero, suc, ◌+◌, min, length}
use Rattle.rooms.specs.Table.{most_servers, most_server_cords}
use Rattle.rooms.specs.Rows.{cord_row_at, server_row_at}
use Rattle.rooms.specs.declared.lists.CordRow.{CordRow}
use Rattle.rooms.specs.declared.lists.ServerRow.{ServerRow}
use Rattle.print.specs.Line.{freed_line}
use Rattle.print.specs.Print.{at, server_print, plan_line}

-- The line of the cord at place k of those whose rows start at place c, by how a cord's line is made of its number, its node and its place.
abbrev pub cord_line_at : List CordRow → (ℕ → ℕ → ℕ → List ℕ) → ℕ → ℕ → List ℕ
cord_line_at cords line c k = line (k + 1) (cord_row_at cords (c + k)).node (c + k)

-- The count of cords of the server at a place.
abbrev pub cords_at : List ServerRow → ℕ → ℕ
cords_at servers v = min (server_row_at servers v).cords most_server_cords

-- So many servers from place v on, whose cords start at place c.
unfoldable pub servers_at : List ServerRow → List CordRow → List ℕ → (ℕ → ℕ → ℕ → List ℕ) → ℕ → ℕ → ℕ → List ℕ
servers_at servers cords caps line zero v c = []
servers_at servers cords caps line (suc left) v c =
    server_print (v + 1) (at caps v) (cords_at servers v) (cord_line_at cords line c)
    ++ servers_at servers cords caps line left (v + 1) (c + cords_at servers v)

-- All servers.
abbrev pub walk_print : List ServerRow → List CordRow → List ℕ → (ℕ → ℕ → ℕ → List ℕ) → List ℕ
walk_print servers cords caps line = servers_at servers cords caps line (min (length servers) most_servers) 0 0

-- The print of a plan.
unfoldable pub plan_print : ℕ → List ServerRow → List CordRow → (caps grants headroom held : List ℕ) → List ℕ
plan_print freed servers cords caps grants headroom held = freed_line freed ++ walk_print servers cords caps (plan_line grants headroom held)
