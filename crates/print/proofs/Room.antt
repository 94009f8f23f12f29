-- The walk over the rows of a room's servers and cords prints the servers of the room; and figures past those of the room make no difference.
use mathlib.Core.Path.{◌≡◌, refl, sym, ap, ◌∙◌}
use mathlib.Core.List.{List, [], ◌∷◌, ◌++◌}
use Prim.Native.Nat.{ℕ, zero, suc, ◌+◌, ◌≤◌, ◌<◌}
use native.Mathlib.Omega.{arith}
use native.Mathlib.Numerals.{add-one}
use lib.ListN.{length, get_or, drop, get_or-append, get_or-map}
use lib.Seq.{sets, get_or-take, take-length, drop-cons, drop-drop, drop_at, get_or-drop}
use Rattle.figures.proofs.Stores.{take-sets}
use Rattle.figures.specs.Figures.{total}
use Rattle.figures.proofs.Lists.{figures-at}
use Rattle.rooms.specs.Table.{Server, Room, most_server_cords, cord_count, room_cords}
use Rattle.rooms.specs.Cords.{RoomCord, server_cords, cords_from, cords_of, cord_at, server_at}
use Rattle.rooms.specs.Lists.{nodes_of}
use Rattle.rooms.proofs.Cords.{no_room_cord, no_server, server_cords-length}
use Rattle.rooms.specs.Rows.{cord_row_at, server_row_at, no_cord_row, no_server_row, ServerRows, CordRows}
use Rattle.rooms.specs.declared.lists.CordRow.{CordRow}
use Rattle.rooms.specs.declared.lists.ServerRow.{ServerRow}
use Rattle.rooms.proofs.Walk.{server_cords-at}
use Rattle.print.specs.Line.{freed_line, server_line}
use Rattle.print.specs.Print.{lines_from, at, node_at, server_print, servers_print, plan_line, print_of}
use Rattle.print.specs.Walk.{cord_line_at, cords_at, servers_at}

-- Lines that are the same at each place.
lines_from-same : (f g : ℕ → List ℕ) (count k : ℕ) → ((m : ℕ) → m < k + count → f m ≡ g m)
    → lines_from count k f ≡ lines_from count k g
unfolding lines_from
lines_from-same f g zero k same = refl
lines_from-same f g (suc count) k same =
    rw (same k (omega arith), lines_from-same f g count (k + 1) (λ m h. same m (omega arith)))

-- A server with the same lines has the same print.
server_print-same : (number cap count : ℕ) (line line' : ℕ → List ℕ) → ((k : ℕ) → k < count → line k ≡ line' k)
    → server_print number cap count line ≡ server_print number cap count line'
unfolding server_print
server_print-same number cap count line line' same =
    ap (λ (l : List ℕ). server_line number cap ++ l) (lines_from-same line line' count 0 (λ k h. same k (omega arith)))

-- ---- the servers

-- The nodes of a server's cords, by their places among the room's.
module _ (r : Room) (servers : List ServerRow) {cords : List CordRow} (caps : List ℕ) (line : ℕ → ℕ → ℕ → List ℕ) (sr : ServerRows r servers) (cr : CordRows r cords)
    (few : (v : ℕ) → v < length r.servers → cord_count (server_at r v) ≤ most_server_cords) where
  count_at : (v : ℕ) → v < length r.servers → cords_at servers v ≡ cord_count (server_at r v)
  count_at v h =
      let is : (server_row_at servers v).cords ≡ cord_count (server_at r v)
      = sym (get_or-map (λ (row : ServerRow). row.cords) servers v no_server_row) ∙ ap (λ (l : List ℕ). at l v) sr.counts ∙ figures-at (length r.servers) v _ h in
      omega (arith, is, few v h)

  node_stands : (c : ℕ) → c < room_cords r → (cord_row_at cords c).node ≡ (cord_at r c).node
  unfolding nodes_of
  node_stands c h = sym (get_or-map (λ (row : CordRow). row.node) cords c no_cord_row) ∙ ap (λ (l : List ℕ). at l c) cr.nodes ∙ figures-at (room_cords r) c _ h

  -- One server and its cords, at place c of the room's.
  module _ (v c : ℕ) (s : Server) (rest : List Server) (split : drop v r.servers ≡ s ∷ rest) (cords_are : drop c (cords_of r) ≡ cords_from v (s ∷ rest))
      (first : v < length r.servers) (left : c + total cord_count (s ∷ rest) ≡ room_cords r) where
    here : (server_at r v ≡ s) × (drop (suc v) r.servers ≡ rest)
    here =
        let e : server_at r v ∷ drop (suc v) r.servers ≡ s ∷ rest = sym (drop-cons r.servers v no_server first) ∙ split in
        let a : server_at r v ≡ s = cc in
        let b : drop (suc v) r.servers ≡ rest = cc in
        (a, b)

    after : drop c (cords_of r) ≡ server_cords v s.cords ++ cords_from (suc v) rest
    unfolding cords_from
    after = cords_are

    total_is : c + (cord_count s + total cord_count rest) ≡ room_cords r
    unfolding total
    total_is = left

    node-of : (k : ℕ) → k < cord_count s → (cord_row_at cords (c + k)).node ≡ node_at s.cords k
    node-of k h =
        node_stands (c + k) (omega (arith, total_is))
        ∙ ap (λ (x : RoomCord). x.node)
        (sym (get_or-drop c (cords_of r) k no_room_cord)
        ∙ ap (λ (l : List RoomCord). get_or l k no_room_cord) after
        ∙ get_or-append (server_cords v s.cords) (cords_from (suc v) rest) no_room_cord k (omega (arith, server_cords-length v s.cords))
        ∙ server_cords-at v s.cords k h)

    cords_next : drop (c + cord_count s) (cords_of r) ≡ cords_from (suc v) rest
    cords_next =
        sym (drop-drop (cord_count s) c (cords_of r))
        ∙ ap (drop (cord_count s)) after
        ∙ drop_at (server_cords v s.cords) (cords_from (suc v) rest) (cord_count s) (server_cords-length v s.cords)

  -- The servers from place v on, with their cords from place c on.
  pub servers_at-servers : (left v c : ℕ) (ss : List Server) → v + left ≡ length r.servers → drop v r.servers ≡ ss → length ss ≡ left
      → drop c (cords_of r) ≡ cords_from v ss → c + total cord_count ss ≡ room_cords r
      → servers_at servers cords caps line left v c ≡ servers_print caps line v c ss
  unfolding servers_at servers_print
  servers_at-servers zero v c [] n d l e t = refl
  servers_at-servers zero v c (s ∷ rest) n d l e t = absurd (omega arith)
  servers_at-servers (suc left) v c [] n d l e t = absurd (omega arith)
  servers_at-servers (suc left) v c (s ∷ rest) n d l e t =
      let first : v < length r.servers = omega arith in
      let count : cords_at servers v ≡ cord_count s = count_at v first ∙ ap cord_count (here v c s rest d e first t).0 in
      let next : v + 1 ≡ suc v = add-one v in
      rw (
        count,
        server_print-same (v + 1) (at caps v) (cord_count s) (cord_line_at cords line c) (λ k. line (k + 1) (node_at s.cords k) (c + k))
            (λ k h. ap (λ (n : ℕ). line (k + 1) n (c + k)) (node-of v c s rest d e first t k h)),
        servers_at-servers left (v + 1) (c + cord_count s) rest (omega arith) (rw next (here v c s rest d e first t).1) (omega arith)
            (rw next (cords_next v c s rest d e first t)) (omega (arith, total_is v c s rest d e first t)),
      )

-- ---- figures past those of the room make no difference

module _ (caps caps' : List ℕ) (line line' : ℕ → ℕ → ℕ → List ℕ) where
  servers_print-same : (v c : ℕ) (ss : List Server) → ((k : ℕ) → k < v + length ss → at caps k ≡ at caps' k)
      → ((number node k : ℕ) → k < c + total cord_count ss → line number node k ≡ line' number node k)
      → servers_print caps line v c ss ≡ servers_print caps' line' v c ss
  unfolding servers_print total
  servers_print-same v c [] h k = refl
  servers_print-same v c (s ∷ ss) h k =
      let cords = server_print-same (v + 1) (at caps' v) (cord_count s) (at-cord line) (at-cord line') (λ m l. k (m + 1) (node_at s.cords m) (c + m) (omega arith)) in
      let rest = servers_print-same (v + 1) (c + cord_count s) ss (λ m l. h m (omega arith)) (λ a b m l. k a b m (omega arith)) in
      rw (h v (omega arith), cords, rest)
    where
      at-cord : (ℕ → ℕ → ℕ → List ℕ) → ℕ → List ℕ
      at-cord by m = by (m + 1) (node_at s.cords m) (c + m)

-- What stands at the front of a list that has it there.
at_front : (list output : List ℕ) (k : ℕ) → k < length output → length output ≤ length list
    → at (sets list 0 output) k ≡ at output k
at_front list output k h l =
    sym (get_or-take (length output) (sets list 0 output) k 0 h) ∙ rw (take-sets (length output) list output l (omega arith), take-length output)

-- A plan whose figures stand at the front of longer lists: for each cord the same line, and the same print.
module _ (r : Room) (freed : ℕ) (caps grants headroom held list list' list'' list''' : List ℕ) (hc : length caps ≡ length r.servers)
    (hg : length grants ≡ room_cords r) (hh : length headroom ≡ room_cords r) (hd : length held ≡ room_cords r)
    (lc : length caps ≤ length list) (lg : length grants ≤ length list') (lh : length headroom ≤ length list'') (ld : length held ≤ length list''') where
  line-front : (number node k : ℕ) → k < room_cords r → plan_line (sets list' 0 grants) (sets list'' 0 headroom) (sets list''' 0 held) number node k ≡ plan_line grants headroom held number node k
  line-front number node k h = rw (at_front list' grants k (omega arith) lg, at_front list'' headroom k (omega arith) lh, at_front list''' held k (omega arith) ld)

  pub print_of-front : print_of freed r.servers (sets list 0 caps) (sets list' 0 grants) (sets list'' 0 headroom) (sets list''' 0 held) ≡ print_of freed r.servers caps grants headroom held
  unfolding print_of
  print_of-front =
      ap (λ (l : List ℕ). freed_line freed ++ l)
      (servers_print-same (sets list 0 caps) caps (plan_line (sets list' 0 grants) (sets list'' 0 headroom) (sets list''' 0 held)) (plan_line grants headroom held) 0 0 r.servers
      (λ k h. at_front list caps k (omega arith) lc) (λ number node k h. line-front number node k (omega arith)))
