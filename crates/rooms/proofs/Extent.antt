-- How many words a good part of a table has: those of its version a node, two a cord, four a server and two for each of its cords.
-- So an accepted table's length tells the count of its cords.
use mathlib.Core.Path.{◌≡◌, refl}
use mathlib.Core.Bool.{Bool}
use mathlib.Core.List.{List, [], ◌∷◌}
use Prim.Native.Nat.{ℕ, zero, suc, ◌+◌, ◌*◌}
use native.Mathlib.Nat.{mul-zero, mul-suc}
use native.Mathlib.Omega.{arith}
use lib.ListN.{length}
use Rattle.rooms.specs.Part.{good, Part, many}
use Rattle.figures.specs.Figures.{total}
use Rattle.rooms.specs.Table.{Node, Cord, Server, Room, node_words, nodes, cords, server, servers, cord_count, room_cords, table}
use Rattle.rooms.proofs.Inversion.{node_is, cord_is, server_is, many_is}
use Rattle.rooms.proofs.Whole.{percents_of, table_is}

-- A row of parts has the words of all of them, where each part has `size` of them.
many_next : {A : Type 0} (part : ℕ → Part A) (next : ℕ → A → ℕ) (w : List ℕ) (size : A → ℕ)
    → ((given i : ℕ) (a : A) (j : ℕ) → part given w i ≡ good a j → j ≡ i + size a)
    → (left given i : ℕ) (l : List A) (j : ℕ) → many left part next given w i ≡ good l j → j ≡ i + total size l
unfolding many total
many_next part next w size each zero given i l j e =
    let x : [] ≡ l = cc in
    let y : i ≡ j = cc in
    rw (← x) (omega arith)
many_next part next w size each (suc left) given i l j e =
    let m = many_is left part next given w i l j e in
    let first = each given i m.got m.at m.first in
    let others = many_next part next w size each left (next given m.got) m.at m.rest j m.others in
    rw m.is (omega arith)

same_words : {A : Type 0} (k : ℕ) (l : List A) → total (λ _. k) l ≡ k * length l
unfolding total
same_words k [] = omega (arith, mul-zero k)
same_words k (a ∷ l) = omega (arith, same_words k l, mul-suc k (length l))

nodes_next : (percents : Bool) (count own : ℕ) (w : List ℕ) (i : ℕ) (l : List Node) (j : ℕ) → nodes percents count own w i ≡ good l j
    → j ≡ i + node_words percents * length l
nodes_next percents count own w i l j e =
    omega (arith, same_words (node_words percents) l, many_next _ _ w (λ _. node_words percents) (λ own i n j d. (node_is percents own w i n j d).next) count own i l j e)

cords_next : (scale node_count count : ℕ) (w : List ℕ) (i : ℕ) (l : List Cord) (j : ℕ) → cords scale node_count count w i ≡ good l j → j ≡ i + 2 * length l
cords_next scale node_count count w i l j e =
    omega (arith, same_words 2 l, many_next _ _ w (λ _. 2) (λ _ i c j d. omega (arith, (cord_is scale node_count w i c j d).next)) count 0 i l j e)

pub server_next : (scale node_count before : ℕ) (w : List ℕ) (i : ℕ) (s : Server) (j : ℕ) → server scale node_count before w i ≡ good s j → j ≡ i + 4 + 2 * cord_count s
server_next scale node_count before w i s j e =
    omega (arith, cords_next scale node_count _ w _ s.cords j (server_is scale node_count before w i s j e).load.are)

-- Servers have four words each, and two for each cord of them all.
server-words : (l : List Server) → total (λ s. 4 + 2 * cord_count s) l ≡ 4 * length l + 2 * total cord_count l
unfolding total
server-words [] = refl
server-words (s ∷ l) = omega (arith, server-words l)

servers_next : (scale node_count count before : ℕ) (w : List ℕ) (i : ℕ) (l : List Server) (j : ℕ) → servers scale node_count count before w i ≡ good l j
    → j ≡ i + 4 * length l + 2 * total cord_count l
servers_next scale node_count count before w i l j e =
    omega (arith, server-words l, many_next _ _ w (λ s. 4 + 2 * cord_count s) (λ before i s j d. omega (arith, server_next scale node_count before w i s j d)) count before i l j e)

-- The index after a good table, by its words 0 and 1, its nodes, their servers' count and its servers.
pub table_next : (w : List ℕ) (r : Room) (j : ℕ) → table w 0 ≡ good r j
    → j ≡ 3 + node_words (percents_of w) * length r.nodes + 4 * length r.servers + 2 * room_cords r
table_next w r j e =
    let t = table_is w r j e in
    omega (arith, nodes_next (percents_of w) _ 1 w 2 r.nodes t.middle t.nodes_read, servers_next r.scale _ _ 0 w _ r.servers j t.servers_read)
