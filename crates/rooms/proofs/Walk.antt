-- The walk over a good table's servers, in the terms of code: the words of the server that stands next, and its cords in the room's order.
use mathlib.Core.Path.{◌≡◌, refl, sym, ap, ap₂, ◌∙◌}
use mathlib.Core.List.{List, [], ◌∷◌, ◌++◌}
use Prim.Native.Nat.{ℕ, zero, suc, ◌+◌, ◌*◌, ◌≤◌, ◌<◌}
use native.Mathlib.Nat.{not-suc-le-zero, le_of_suc-le-suc, zero-add}
use native.Mathlib.Omega.{arith}
use native.Mathlib.Numerals.{add-one}
use lib.ListN.{length, get_or, drop, get_or-append, drop_of_length-le}
use lib.Seq.{drop-cons, drop-drop, drop_at, get_or-drop}
use Rattle.rooms.specs.Part.{good}
use Rattle.figures.specs.Figures.{total}
use Rattle.rooms.specs.Table.{Cord, Server, Room, most_nodes, most_cords, most_watts, highest_rank, cord, cords, server, servers, cord_count, room_cords}
use Rattle.rooms.specs.Limits.{checked}
use Rattle.rooms.proofs.Inversion.{many_is, CordIs, cord_is, server_is}
use Rattle.rooms.proofs.Rows.{nodes_words, cords_words}
use Rattle.rooms.proofs.Whole.{percents_of, table_is, checked_is}
use Rattle.rooms.proofs.Accepted.{accepted}
use Rattle.rooms.specs.Cords.{RoomCord, server_cords, cords_from, cords_of, cord_at, server_at}
use Rattle.rooms.specs.Credits.{node_index}
use Rattle.rooms.specs.Walk.{servers_index}
use Rattle.rooms.proofs.Cords.{no_cord, no_room_cord, no_server, placed, server_cords-length}

-- ---- The counts

-- The count of nodes of a good table; the most nodes and cords that it has.
pub record Begun (table : List ℕ) (r : Room) : Type 0 where
  pub there : 1 < length table
  pub count : get_or table 1 0 ≡ length r.nodes
  pub most : length r.nodes ≤ most_nodes
  pub cords_most : room_cords r ≤ most_cords

module _ {table : List ℕ} {r : Room} {end : ℕ} (e : checked table 0 ≡ good r end) where
  pub begun : Begun table r
  begun =
      let t = table_is table r end (checked_is table r end e).0 in
      record { there = t.begun; count = t.node_count; most = t.few_nodes; cords_most = (accepted table r end e).few_cords }

-- ---- The cords of a server

-- The cords of a good row by place.
cords-at : (scale node_count count : ℕ) (w : List ℕ) (i : ℕ) (l : List Cord) (j : ℕ) (d : Cord) (k : ℕ) → k < count → cords scale node_count count w i ≡ good l j
    → CordIs scale node_count w (i + 2 * k) (get_or l k d) (suc (suc (i + 2 * k)))
cords-at scale node_count zero w i l j d k h e = absurd (omega arith)
cords-at scale node_count (suc count) w i l j d zero h e =
    let a = many_is count (λ _. cord scale node_count) (λ given _. given) 0 w i l j e in
    let n = cord_is scale node_count w i a.got a.at a.first in
    let z : i + 2 * 0 ≡ i = omega arith in
    rw (a.is, z, ← n.next) n
cords-at scale node_count (suc count) w i l j d (suc k) h e =
    let a = many_is count (λ _. cord scale node_count) (λ given _. given) 0 w i l j e in
    let n = cord_is scale node_count w i a.got a.at a.first in
    let z : i + 2 * suc k ≡ a.at + 2 * k = omega (arith, n.next) in
    rw (a.is, z) (cords-at scale node_count count w a.at a.rest j d k (omega arith) a.others)

-- The k-th of a server's cords among the room's.
pub server_cords-at : (v : ℕ) (l : List Cord) (k : ℕ) → k < length l → get_or (server_cords v l) k no_room_cord ≡ placed v (get_or l k no_cord)
unfolding server_cords
server_cords-at v [] k h = absurd (not-suc-le-zero h)
server_cords-at v (c ∷ rest) zero h = refl
server_cords-at v (c ∷ rest) (suc k) h = server_cords-at v rest k (le_of_suc-le-suc h)

-- ---- The walk

-- The walk stands before the server at place v: its words start at an index of the table, and its cords at place c of the room's.
pub record Walk (table : List ℕ) (r : Room) (v index c : ℕ) : Type 0 where
  pub before : ℕ
  pub left : ℕ
  pub end : ℕ
  pub servers_left : v + left ≡ length r.servers
  pub is : servers r.scale (length r.nodes) left before table index ≡ good (drop v r.servers) end
  pub there : index ≤ length table
  pub cords_are : drop c (cords_of r) ≡ cords_from v (drop v r.servers)
  pub cords-left : c + total cord_count (drop v r.servers) ≡ room_cords r

-- The k-th cord of the server that stands next.
pub record CordHere (table : List ℕ) (r : Room) (v index c k : ℕ) : Type 0 where
  pub there : index + 5 + 2 * k < length table
  pub is : cord_at r (c + k) ≡ record { server = v; node = get_or table (index + 4 + 2 * k) 0; share = get_or table (index + 5 + 2 * k) 0 }
  pub node_most : get_or table (index + 4 + 2 * k) 0 ≤ length r.nodes
  pub share_most : get_or table (index + 5 + 2 * k) 0 ≤ r.scale
  pub within : c + k < room_cords r

-- The server that stands next, at place v, and the walk after it.
pub record ServerHere (table : List ℕ) (r : Room) (v index c : ℕ) : Type 0 where
  pub there : index + 3 < length table
  pub rank : (server_at r v).rank ≡ get_or table index 0
  pub least : (server_at r v).least ≡ get_or table (index + 1) 0
  pub greatest : (server_at r v).greatest ≡ get_or table (index + 2) 0
  pub lowest : 1 ≤ get_or table index 0
  pub highest : get_or table index 0 ≤ highest_rank
  pub ordered : get_or table (index + 1) 0 ≤ get_or table (index + 2) 0
  pub most : get_or table (index + 2) 0 ≤ most_watts
  pub count : cord_count (server_at r v) ≡ get_or table (index + 3) 0
  pub cords-within : c + get_or table (index + 3) 0 ≤ room_cords r
  pub cord : (k : ℕ) → k < get_or table (index + 3) 0 → CordHere table r v index c k
  pub next : Walk table r (v + 1) (index + (4 + 2 * get_or table (index + 3) 0)) (c + get_or table (index + 3) 0)

pub walk_start : {table : List ℕ} {r : Room} {end : ℕ} → checked table 0 ≡ good r end → Walk table r 0 (servers_index table + 1) 0
walk_start {table} {r} {end} e =
    let t = table_is table r end (checked_is table r end e).0 in
    let m = (nodes_words (percents_of table) (length r.nodes) 1 table 2 r.nodes t.middle t.begun t.nodes_read).0 in
    let i : servers_index table + 1 ≡ suc t.middle
    = add-one (servers_index table) ∙ ap (λ (k : ℕ). suc (node_index (percents_of table) k)) t.node_count ∙ ap suc (sym m) in
    rw i
    (record {
      before = 0;
      left = length r.servers;
      end = end;
      servers_left = zero-add (length r.servers);
      is = t.servers_read;
      there = t.there;
      cords_are = refl;
      cords-left = zero-add (room_cords r);
    })

-- The server that stands next, as it was read from the table: `rest` are the servers after it.
module _ (table : List ℕ) (r : Room) (v index c before left end after : ℕ) (s : Server) (rest : List Server)
    (counted : v + suc left ≡ length r.servers)
    (split : drop v r.servers ≡ s ∷ rest)
    (first : server r.scale (length r.nodes) before table index ≡ good s after)
    (others : servers r.scale (length r.nodes) left (before + cord_count s) table after ≡ good rest end)
    (walk : Walk table r v index c) where
  here : (server_at r v ≡ s) × (drop (suc v) r.servers ≡ rest)
  here =
      let e : server_at r v ∷ drop (suc v) r.servers ≡ s ∷ rest = sym (drop-cons r.servers v no_server (omega arith)) ∙ split in
      let a : server_at r v ≡ s = cc in
      let b : drop (suc v) r.servers ≡ rest = cc in
      (a, b)

  words : (index + 3 < length table) × (get_or table (index + 3) 0 ≡ cord_count s) × (after ≡ index + (4 + 2 * cord_count s)) × (after ≤ length table)
  words =
      let l = (server_is r.scale (length r.nodes) before table index s after first).load in
      let c = cords_words r.scale (length r.nodes) (get_or table (suc (suc (suc index))) 0) table (suc (suc (suc (suc index)))) s.cords after l.there l.are in
      let e : index + 3 ≡ suc (suc (suc index)) = omega arith in
      (omega (arith, l.there), rw e (sym l.count), omega (arith, c.0, l.count), c.1)

  cords-after : drop c (cords_of r) ≡ server_cords v s.cords ++ cords_from (suc v) rest
  unfolding cords_from
  cords-after = walk.cords_are ∙ ap (cords_from v) split

  count-after : c + (cord_count s + total cord_count rest) ≡ room_cords r
  unfolding total
  count-after = ap (λ (l : List Server). c + total cord_count l) (sym split) ∙ walk.cords-left

  cord_placed : (k : ℕ) → k < cord_count s → cord_at r (c + k) ≡ placed v (get_or s.cords k no_cord)
  cord_placed k h =
      sym (get_or-drop c (cords_of r) k no_room_cord)
      ∙ ap (λ (l : List RoomCord). get_or l k no_room_cord) cords-after
      ∙ get_or-append (server_cords v s.cords) (cords_from (suc v) rest) no_room_cord k (omega (arith, server_cords-length v s.cords))
      ∙ server_cords-at v s.cords k h

  cord-here : (k : ℕ) → k < cord_count s → CordHere table r v index c k
  cord-here k h =
      let l = (server_is r.scale (length r.nodes) before table index s after first).load in
      let i = cords-at r.scale (length r.nodes) (get_or table (suc (suc (suc index))) 0) table (suc (suc (suc (suc index)))) s.cords after no_cord k (omega (arith, l.count)) l.are in
      let e4 : index + 4 + 2 * k ≡ suc (suc (suc (suc index))) + 2 * k = omega arith in
      let e5 : index + 5 + 2 * k ≡ suc (suc (suc (suc (suc index))) + 2 * k) = omega arith in
      let n : (get_or s.cords k no_cord).node ≡ get_or table (index + 4 + 2 * k) 0 = rw e4 (ap (λ (x : Cord). x.node) i.is) in
      let m : (get_or s.cords k no_cord).share ≡ get_or table (index + 5 + 2 * k) 0 = rw e5 (ap (λ (x : Cord). x.share) i.is) in
      record {
        there = omega (arith, i.there);
        is = cord_placed k h ∙ ap₂ (λ (x y : ℕ). record { server = v; node = x; share = y }) n m;
        node_most = rw (← n) i.last;
        share_most = rw (← m) i.share;
        within = omega (arith, count-after);
      }

  walk_on : Walk table r (suc v) after (c + cord_count s)
  walk_on =
      record {
        before = before + cord_count s;
        left = left;
        end = end;
        servers_left = omega arith;
        is = rw here.1 others;
        there = words.3;
        cords_are =
            sym (drop-drop (cord_count s) c (cords_of r))
            ∙ ap (drop (cord_count s)) cords-after
            ∙ drop_at (server_cords v s.cords) (cords_from (suc v) rest) (cord_count s) (server_cords-length v s.cords)
            ∙ ap (cords_from (suc v)) (sym here.1);
        cords-left = rw here.1 (omega (arith, count-after));
      }

  server-here : ServerHere table r v index c
  server-here =
      let i = server_is r.scale (length r.nodes) before table index s after first in
      let e1 : index + 1 ≡ suc index = omega arith in
      let e2 : index + 2 ≡ suc (suc index) = omega arith in
      let a : s.rank ≡ get_or table index 0 = ap (λ (x : Server). x.rank) i.is in
      let b : s.least ≡ get_or table (index + 1) 0 = rw e1 (ap (λ (x : Server). x.least) i.is) in
      let d : s.greatest ≡ get_or table (index + 2) 0 = rw e2 (ap (λ (x : Server). x.greatest) i.is) in
      let n : get_or table (index + 3) 0 ≡ cord_count s = words.1 in
      let w : index + (4 + 2 * get_or table (index + 3) 0) ≡ after = omega (arith, words.2) in
      record {
        there = words.0;
        rank = ap (λ (x : Server). x.rank) here.0 ∙ a;
        least = ap (λ (x : Server). x.least) here.0 ∙ b;
        greatest = ap (λ (x : Server). x.greatest) here.0 ∙ d;
        lowest = rw (← a) i.lowest;
        highest = rw (← a) i.highest;
        ordered = rw (← b, ← d) i.ordered;
        most = rw (← d) i.greatest;
        count = ap cord_count here.0 ∙ sym n;
        cords-within = omega (arith, count-after);
        cord = λ k l. cord-here k (rw n at l);
        next = rw (add-one, w, n) walk_on;
      }

-- Before the last server is passed, the walk stands before one.
pub walk_server : {table : List ℕ} {r : Room} {v index c : ℕ} → Walk table r v index c → v < length r.servers → ServerHere table r v index c
walk_server {table} {r} {v} {index} {c} walk h = go walk.left walk.servers_left walk.is
  where
    go : (left : ℕ) → v + left ≡ length r.servers → servers r.scale (length r.nodes) left walk.before table index ≡ good (drop v r.servers) walk.end
        → ServerHere table r v index c
    go zero n e = absurd (omega arith)
    go (suc left) n e =
        let m = many_is left (server r.scale (length r.nodes)) (λ before s. before + cord_count s) walk.before table index (drop v r.servers) walk.end e in
        server-here table r v index c walk.before left walk.end m.at m.got m.rest n m.is m.first m.others walk

-- After the last server every cord is passed.
pub walk_end : {table : List ℕ} {r : Room} {v index c : ℕ} → Walk table r v index c → length r.servers ≤ v → c ≡ room_cords r
unfolding total
walk_end {r = r} {v = v} {c = c} walk h =
    omega (arith, walk.cords-left, ap (total cord_count) (drop_of_length-le r.servers {i = v} h))
