-- How long a print is.
use mathlib.Core.Path.{◌≡◌}
use mathlib.Core.Bool.{Bool, true, false, cond}
use mathlib.Core.List.{List, [], ◌∷◌, ◌++◌}
use Prim.Native.Nat.{ℕ, zero, suc, ◌+◌, ◌*◌, ◌/◌, ◌%◌, ◌^◌, ◌≤◌, ◌<◌}
use native.Mathlib.Nat.{pow-suc, zero-lt-suc, div-lt_iff_lt-mul}
use native.Mathlib.Omega.{arith}
use borrow.Author.Tests.{lt-ltb}
use lib.Dec.{ltb}
use lib.ListN.{length, length-append}
use Rattle.figures.specs.Bounds.{AllBelow}
use Rattle.figures.specs.Figures.{total}
use Rattle.rooms.specs.Table.{Server, Room, most_servers, most_nodes, most_cords, cord_count}
use Rattle.rooms.proofs.All.{All, all_head, all_tail, all_at}
use Rattle.rooms.proofs.Accepted.{ServerAccepted, Accepted}
use Rattle.print.specs.Line.{numeral, labelled, freed_line, server_line, cord_line, refused_line}
use Rattle.print.specs.Print.{lines_from, at, node_at, server_print, servers_print, plan_line, print_of}

-- A number below 10 ^ k has at most k digits.
length-numeral : (k most n : ℕ) → n < 10 ^ suc k → length (numeral most n) ≤ suc k
unfolding numeral
length-numeral k zero n h = omega arith
length-numeral zero (suc most) n h = rw (lt-ltb n 10 h) (omega arith)
length-numeral (suc k) (suc most) n h =
    go (ltb n 10) (length-numeral k most (n / 10) ((div-lt_iff_lt-mul (zero-lt-suc 9)).1 (rw (pow-suc 10 (suc k)) at h)))
  where
    go : (test : Bool) → length (numeral most (n / 10)) ≤ suc k
        → length (cond test ((48 + n) ∷ []) (numeral most (n / 10) ++ ((48 + n % 10) ∷ []))) ≤ suc (suc k)
    go true rec = omega arith
    go false rec = omega (arith, length-append (numeral most (n / 10)) ((48 + n % 10) ∷ []))

-- No numeral has more digits than it may have.
length_most : (most n : ℕ) → length (numeral most n) ≤ most
unfolding numeral
length_most zero n = omega arith
length_most (suc most) n = go (ltb n 10) (length_most most (n / 10))
  where
    go : (test : Bool) → length (numeral most (n / 10)) ≤ most
        → length (cond test ((48 + n) ∷ []) (numeral most (n / 10) ++ ((48 + n % 10) ∷ []))) ≤ suc most
    go true rec = omega arith
    go false rec = omega (arith, length-append (numeral most (n / 10)) ((48 + n % 10) ∷ []))

-- ---- the lines

-- The most bytes of a cord's line, and of the print of a room: 512 servers and 1,024 cords.
abbrev most_line : ℕ
most_line = 69

abbrev pub most_print : ℕ
most_print = 27 + 26 * most_servers + most_line * most_cords

pub length-refused_line : (number place : ℕ) → length (refused_line number place) ≤ 53
unfolding refused_line labelled
length-refused_line number place = simp length-append (omega (arith, length_most 20 number, length_most 20 place))

length-freed_line : (watts : ℕ) → watts < 10 ^ 20 → length (freed_line watts) ≤ 27
unfolding freed_line labelled
length-freed_line watts h = simp length-append (omega (arith, length-numeral 19 20 watts h))

length-server_line : (number cap : ℕ) → number < 10 ^ 3 → cap < 10 ^ 10 → length (server_line number cap) ≤ 26
unfolding server_line labelled
length-server_line number cap h k = simp length-append (omega (arith, length-numeral 2 20 number h, length-numeral 9 20 cap k))

length-cord_line : (number node grant headroom held : ℕ) → number < 10 ^ 1 → node < 10 ^ 3 → grant < 10 ^ 10 → headroom < 10 ^ 10 → held < 10 ^ 10
    → length (cord_line number node grant headroom held) ≤ most_line
unfolding cord_line labelled
length-cord_line number node grant headroom held h k l m o =
    simp length-append
    (omega (arith, length-numeral 0 20 number h, length-numeral 2 20 node k, length-numeral 9 20 grant l, length-numeral 9 20 headroom m, length-numeral 9 20 held o))

length-lines_from : (most : ℕ) (line : ℕ → List ℕ) (count k : ℕ) → ((m : ℕ) → m < k + count → length (line m) ≤ most)
    → length (lines_from count k line) ≤ most * count
unfolding lines_from
length-lines_from most line zero k h = omega arith
length-lines_from most line (suc count) k h =
    let one = h k (omega arith) in
    let rest = length-lines_from most line count (k + 1) (λ m l. h m (omega arith)) in
    let n : most * suc count ≡ most + most * count = mul_suc' in
    simp length-append (omega arith)
  where
    mul_suc' : most * suc count ≡ most + most * count
    mul_suc' = omega arith

-- ---- the servers

module _
    (caps : List ℕ) (line : ℕ → ℕ → ℕ → List ℕ) (below : AllBelow (2 ^ 32) caps)
    (short : (number node place : ℕ) → number < 10 ^ 1 → node < 10 ^ 3 → length (line number node place) ≤ most_line)
    (scale node_count : ℕ) (few : node_count ≤ most_nodes) where
  length-server_print : (v c : ℕ) (s : Server) → v < most_servers → ServerAccepted scale node_count s
      → length (server_print (v + 1) (at caps v) (cord_count s) (λ k. line (k + 1) (node_at s.cords k) (c + k))) ≤ 26 + most_line * cord_count s
  unfolding server_print
  length-server_print v c s h a =
      let server = length-server_line (v + 1) (at caps v) (omega arith) (omega (arith, below v)) in
      let cords = length-lines_from most_line (λ k. line (k + 1) (node_at s.cords k) (c + k)) (cord_count s) 0 cord in
      simp length-append (omega arith)
    where
      cord : (k : ℕ) → k < 0 + cord_count s → length (line (k + 1) (node_at s.cords k) (c + k)) ≤ most_line
      cord k h =
          let there : k < cord_count s = omega arith in
          let is = all_at _ s.cords a.cords k (record { node = 0; share = 0 }) there in
          short (k + 1) (node_at s.cords k) (c + k) (omega (arith, a.few_cords)) (omega (arith, is.node_to))

  length-servers_print : (v c : ℕ) (ss : List Server) → v + length ss ≤ most_servers → All (ServerAccepted scale node_count) ss
      → length (servers_print caps line v c ss) ≤ 26 * length ss + most_line * total cord_count ss
  unfolding servers_print total
  length-servers_print v c [] h a = omega arith
  length-servers_print v c (s ∷ ss) h a =
      let first = length-server_print v c s (omega arith) (all_head _ s ss a) in
      let rest = length-servers_print (v + 1) (c + cord_count s) ss (omega arith) (all_tail _ s ss a) in
      simp length-append (omega arith)

-- The print of an accepted room, with words for figures and 64 bits of freed watts.
pub length-print_of : (r : Room) (freed : ℕ) (caps grants headroom held : List ℕ) → Accepted r → freed < 2 ^ 64 → AllBelow (2 ^ 32) caps
    → AllBelow (2 ^ 32) grants → AllBelow (2 ^ 32) headroom → AllBelow (2 ^ 32) held
    → length (print_of freed r.servers caps grants headroom held) ≤ most_print
unfolding print_of
length-print_of r freed caps grants headroom held a h below below' below'' below''' =
    let first = length-freed_line freed (omega arith) in
    let rest =
    length-servers_print caps (plan_line grants headroom held) below
    (λ number node place n m. length-cord_line number node (at grants place) (at headroom place) (at held place) n m (omega (arith, below' place)) (omega (arith, below'' place)) (omega (arith, below''' place)))
    r.scale (length r.nodes) a.few_nodes 0 0 r.servers (omega (arith, a.few_servers)) a.servers in
    simp length-append (omega (arith, a.few_servers, a.few_cords))
