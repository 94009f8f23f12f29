-- Which word of a table is the first to name a node on the other side of a cut.
use Rattle.std.specs.Prelude.{Bool, true, false, cond, List, [], ◌∷◌, ℕ, zero, suc, ◌+◌, ◌*◌, length, take, drop, ltb}
use Rattle.rooms.specs.Part.{within}
use Rattle.rooms.specs.Table.{Node, Cord, Server, Room, form_of, node_words}
use Rattle.rooms.specs.Words.{row_words, words_of_server}

-- Whether what stands before the cut, or behind it, names a node on the other side. The nodes up to a number are before it; 0 is no node.
abbrev pub across : (nodes : ℕ) (before : Bool) → ℕ → Bool
across nodes before number = cond before (ltb nodes number) (within 1 nodes number)

-- An index, or another where it is 0: that of a version, which names no node.
abbrev pub or_else : ℕ → ℕ → ℕ
or_else zero other = other
or_else (suc index) other = suc index

-- The index of the first parent across the cut, of nodes behind it whose words start at an index; 0 if there is none.
unfoldable pub parent_across : (nodes width index : ℕ) → List Node → ℕ
parent_across nodes width index [] = 0
parent_across nodes width index (n ∷ rest) = cond (across nodes false n.parent) index (parent_across nodes width (index + width) rest)

-- Likewise of the nodes of cords, and of servers with their cords, on either side.
unfoldable pub cord_across : (nodes : ℕ) (before : Bool) (index : ℕ) → List Cord → ℕ
cord_across nodes before index [] = 0
cord_across nodes before index (c ∷ rest) = cond (across nodes before c.node) index (cord_across nodes before (index + 2) rest)

unfoldable pub server_across : (nodes : ℕ) (before : Bool) (index : ℕ) → List Server → ℕ
unfolding cord_across
server_across nodes before index [] = 0
server_across nodes before index (s ∷ rest) =
    or_else (cord_across nodes before (index + 4) s.cords) (server_across nodes before (index + length (words_of_server s)) rest)

-- Where the nodes behind the cut, all servers, and those behind the cut start in a table.
abbrev pub nodes_behind : (version nodes : ℕ) → ℕ
nodes_behind version nodes = 2 + node_words (form_of version).percents * nodes

abbrev pub servers_start : ℕ → Room → ℕ
servers_start version r = nodes_behind version (length r.nodes) + 1

abbrev pub servers_behind : (version servers : ℕ) → Room → ℕ
servers_behind version servers r = servers_start version r + length (row_words words_of_server (take servers r.servers))

-- The index of the first word of a room's table, in a version, that names a node across the cut; 0 if there is none. (A node before the cut
-- has its parent before it, since a parent's number is below its child's.)
unfoldable pub crossing : (version nodes servers : ℕ) → Room → ℕ
crossing version nodes servers r =
    or_else (parent_across nodes (node_words (form_of version).percents) (nodes_behind version nodes) (drop nodes r.nodes))
    (or_else (server_across nodes true (servers_start version r) (take servers r.servers))
    (server_across nodes false (servers_behind version servers r) (drop servers r.servers)))
