-- The joined room: its counts, its nodes, servers and cords by place, and that both rooms are inside it.
use mathlib.Core.Path.{◌≡◌, refl, sym, ap, ap₂, ◌∙◌}
use mathlib.Core.List.{List, [], ◌∷◌, ◌++◌, map, append_assoc, map-append}
use Prim.Native.Nat.{ℕ, zero, suc, ◌+◌, ◌-◌, ◌≤◌, ◌<◌}
use native.Mathlib.Nat.{add-zero, not-suc-le-zero, le_of_suc-le-suc, suc-ne-zero}
use native.Mathlib.Decide.{dec_le}
use native.Mathlib.Omega.{arith}
use lib.ListN.{length, get_or, length-append, length-map, get_or-append, get_or-map}
use lib.Seq.{get_or-append-add}
use Rattle.figures.specs.Figures.{total}
use Rattle.figures.proofs.Lists.{total-append}
use Rattle.rooms.specs.Table.{raised, Node, Cord, Server, Room, cord_count, room_cords}
use Rattle.rooms.specs.Limits.{limit, node_at, parent_of}
use Rattle.rooms.specs.Cords.{RoomCord, server_cords, cords_from, cords_of, cord_at, server_at}
use Rattle.rooms.proofs.Cords.{no_room_cord, no_server, cords_of-length}
use Rattle.rooms.proofs.Accepted.{Accepted}
use Rattle.deals.proofs.BothDeals.{parents_below, cord_facts}
use Rattle.deals.proofs.RoomInside.{RoomInside}
use Rattle.join.specs.Joined.{raised_node, raised_cord, raised_server, joined}
use Rattle.rooms.specs.Trees.{ParentsFirst}

-- ---- What a room's links keep, whatever its figures

pub record Linked (r : Room) : Type 0 where
  pub rises : ParentsFirst (length r.nodes) (parent_of r)
  pub here : (c : ℕ) → c < room_cords r → (cord_at r c).node ≤ length r.nodes
  pub served : (c : ℕ) → c < room_cords r → (cord_at r c).server < length r.servers

pub accepted_facts : (r : Room) → Accepted r → Linked r
accepted_facts r ok = record { rises = parents_below r ok; here = λ c l. (cord_facts r ok c l).2; served = λ c l. (cord_facts r ok c l).0 }

-- ---- Counts

-- A place in the first list, or one in the second.
pub data Side (k n : ℕ) : Type 0 where
  before : n < k → Side k n
  behind : (i : ℕ) → n ≡ i + k → Side k n

pub side : (k n : ℕ) → Side k n
side k n = go (dec_le k n)
  where
    go : Dec (k ≤ n) → Side k n
    go (yes h) = behind (n - k) (omega arith)
    go (no h) = before (omega arith)

pub raised_none : (v : ℕ) → v ≡ raised 0 v
raised_none zero = refl
raised_none (suc q) = ap suc (sym (add-zero q))

raised_far : (k v n : ℕ) → raised k v ≡ suc n → k ≤ n
raised_far k zero n e = absurd (suc-ne-zero n (sym e))
raised_far k (suc p) n e = omega arith

-- The entry behind a first list.
pub behind_at : {A : Type 0} (l m : List A) (n k : ℕ) (none : A) → length l ≡ k → get_or (l ++ m) (n + k) none ≡ get_or m n none
behind_at l m n k none e = ap (λ (x : ℕ). get_or (l ++ m) x none) (let q : n + k ≡ length l + n = omega arith in q) ∙ get_or-append-add l m n none

-- An entry of a mapped list.
pub map_at : {A B : Type 0} (f : A → B) (l : List A) (n : ℕ) (x : A) (y : B) → n < length l → get_or (map f l) n y ≡ f (get_or l n x)
map_at f [] n x y h = absurd (not-suc-le-zero h)
map_at f (a ∷ l) zero x y h = refl
map_at f (a ∷ l) (suc n) x y h = map_at f l n x y (le_of_suc-le-suc h)

-- What is made of each has as much of a figure: so has all of it.
pub total_kept : {A : Type 0} (figure : A → ℕ) (f : A → A) → ((a : A) → figure (f a) ≡ figure a) → (l : List A) → total figure (map f l) ≡ total figure l
unfolding total
total_kept figure f same [] = refl
total_kept figure f same (a ∷ l) = ap₂ ◌+◌ (same a) (total_kept figure f same l)

-- ---- The cords, each with its server

abbrev raised_placed : ℕ → ℕ → RoomCord → RoomCord
raised_placed a v c = record { server = c.server + v; node = raised a c.node; share = c.share }

cords_from-append : (u : ℕ) (l m : List Server) → cords_from u (l ++ m) ≡ cords_from u l ++ cords_from (u + length l) m
unfolding cords_from
cords_from-append u [] m = ap (λ (x : ℕ). cords_from x m) (sym (add-zero u))
cords_from-append u (s ∷ l) m =
    ap (λ (z : List RoomCord). server_cords u s.cords ++ z)
    (cords_from-append (suc u) l m ∙ ap (λ (x : ℕ). cords_from (suc u) l ++ cords_from x m) (let q : suc u + length l ≡ u + suc (length l) = omega arith in q))
    ∙ sym (append_assoc (server_cords u s.cords) (cords_from (suc u) l) (cords_from (u + suc (length l)) m))

placed_raised : (a v u : ℕ) (l : List Cord) → server_cords (u + v) (map (raised_cord a) l) ≡ map (raised_placed a v) (server_cords u l)
unfolding server_cords
placed_raised a v u [] = refl
placed_raised a v u (c ∷ l) = ap (λ (z : List RoomCord). record { server = u + v; node = raised a c.node; share = c.share } ∷ z) (placed_raised a v u l)

cords-raised : (a v u : ℕ) (l : List Server) → cords_from (u + v) (map (raised_server a) l) ≡ map (raised_placed a v) (cords_from u l)
unfolding cords_from
cords-raised a v u [] = refl
cords-raised a v u (s ∷ l) =
    ap₂ ◌++◌ (placed_raised a v u s.cords)
    (ap (λ (x : ℕ). cords_from x (map (raised_server a) l)) (let q : suc (u + v) ≡ suc u + v = omega arith in q) ∙ cords-raised a v (suc u) l)
    ∙ sym (map-append (raised_placed a v) (server_cords u s.cords) (cords_from (suc u) l))

module _ (r q : Room) where
  pub nodes-joined : length (joined r q).nodes ≡ length r.nodes + length q.nodes
  nodes-joined = length-append r.nodes _ ∙ ap (λ (x : ℕ). length r.nodes + x) (length-map q.nodes (raised_node (length r.nodes)))

  pub servers-joined : length (joined r q).servers ≡ length r.servers + length q.servers
  servers-joined = length-append r.servers _ ∙ ap (λ (x : ℕ). length r.servers + x) (length-map q.servers (raised_server (length r.nodes)))

  pub cords-count : room_cords (joined r q) ≡ room_cords r + room_cords q
  cords-count = total-append cord_count r.servers _ ∙ ap (λ (x : ℕ). room_cords r + x) (total_kept cord_count (raised_server (length r.nodes)) (λ s. length-map s.cords (raised_cord (length r.nodes))) q.servers)

  cords-joined : cords_of (joined r q) ≡ cords_of r ++ map (raised_placed (length r.nodes) (length r.servers)) (cords_of q)
  cords-joined =
      cords_from-append 0 r.servers _
      ∙ ap (λ (z : List RoomCord). cords_of r ++ z) (cords-raised (length r.nodes) (length r.servers) 0 q.servers)

  node_first : (m : ℕ) → m < length r.nodes → node_at (joined r q) m ≡ node_at r m
  node_first m l = get_or-append r.nodes _ _ m l

  node_second : (m : ℕ) → node_at (joined r q) (m + length r.nodes) ≡ raised_node (length r.nodes) (node_at q m)
  node_second m = behind_at r.nodes _ m _ _ refl ∙ get_or-map (raised_node (length r.nodes)) q.nodes m (record { parent = 0; rating = 0; percent = 0 })

  server_first : (u : ℕ) → u < length r.servers → server_at (joined r q) u ≡ server_at r u
  server_first u l = get_or-append r.servers _ _ u l

  server_second : (u : ℕ) → server_at (joined r q) (u + length r.servers) ≡ raised_server (length r.nodes) (server_at q u)
  server_second u = behind_at r.servers _ u _ _ refl ∙ get_or-map (raised_server (length r.nodes)) q.servers u no_server

  cord_first : (c : ℕ) → c < room_cords r → cord_at (joined r q) c ≡ cord_at r c
  cord_first c l = ap (λ (z : List RoomCord). get_or z c no_room_cord) cords-joined ∙ get_or-append (cords_of r) _ no_room_cord c (omega (arith, cords_of-length r))

  cord_second : (c : ℕ) → c < room_cords q → cord_at (joined r q) (c + room_cords r) ≡ raised_placed (length r.nodes) (length r.servers) (cord_at q c)
  cord_second c l =
      ap (λ (z : List RoomCord). get_or z (c + room_cords r) no_room_cord) cords-joined
      ∙ behind_at (cords_of r) _ c (room_cords r) no_room_cord (cords_of-length r)
      ∙ map_at _ (cords_of q) c no_room_cord no_room_cord (omega (arith, cords_of-length q))

  module _ (facts : Linked r) where
    -- ---- The first room is inside

    pub first_inside : RoomInside r (joined r q) 0 0 0
    first_inside = record {
      scale = refl;
      nodes_fit = omega (arith, nodes-joined);
      cords_fit = omega (arith, cords-count);
      servers_fit = omega (arith, servers-joined);
      parent = λ m l. rw add-zero (ap (λ (n : Node). n.parent) (node_first m l) ∙ raised_none _);
      limits = λ m l. rw add-zero (ap limit (node_first m l));
      rank = λ u l. rw add-zero (ap (λ (s : Server). s.rank) (server_first u l));
      least = λ u l. rw add-zero (ap (λ (s : Server). s.least) (server_first u l));
      greatest = λ u l. rw add-zero (ap (λ (s : Server). s.greatest) (server_first u l));
      server = λ c l. rw (add-zero, add-zero) (ap (λ (x : RoomCord). x.server) (cord_first c l));
      node = λ c l. rw add-zero (ap (λ (x : RoomCord). x.node) (cord_first c l) ∙ raised_none _);
      share = λ c l. rw add-zero (ap (λ (x : RoomCord). x.share) (cord_first c l));
      alone = λ m n l h e. alone m n h e (side (length r.nodes) m);
      bare = λ c n l h e. bare c n l h e (side (room_cords r) c);
      apart = λ c u l h e. apart c u l h e (side (room_cords r) c);
    }
      where
        alone : (m n : ℕ) → n < length r.nodes → parent_of (joined r q) m ≡ suc (n + 0) → Side (length r.nodes) m → (0 ≤ m) × (m < 0 + length r.nodes)
        alone m n h e (before o) = omega arith
        alone m n h e (behind i o) =
            let z : raised (length r.nodes) (parent_of q i) ≡ suc (n + 0)
            = sym (ap (λ (x : Node). x.parent) (node_second i)) ∙ ap (parent_of (joined r q)) (sym o) ∙ e in
            absurd (omega (arith, raised_far (length r.nodes) (parent_of q i) (n + 0) z))

        second : (c i : ℕ) → c < room_cords (joined r q) → c ≡ i + room_cords r → i < room_cords q
        second c i l o = omega (arith, cords-count)

        bare : (c n : ℕ) → c < room_cords (joined r q) → n < length r.nodes → (cord_at (joined r q) c).node ≡ suc (n + 0) → Side (room_cords r) c
            → (0 ≤ c) × (c < 0 + room_cords r)
        bare c n l h e (before o) = omega arith
        bare c n l h e (behind i o) =
            let z : raised (length r.nodes) (cord_at q i).node ≡ suc (n + 0)
            = sym (ap (λ (x : RoomCord). x.node) (cord_second i (second c i l o))) ∙ ap (λ (x : ℕ). (cord_at (joined r q) x).node) (sym o) ∙ e in
            absurd (omega (arith, raised_far (length r.nodes) (cord_at q i).node (n + 0) z))

        apart : (c u : ℕ) → c < room_cords (joined r q) → u < length r.servers → (cord_at (joined r q) c).server ≡ u + 0 → Side (room_cords r) c
            → (0 ≤ c) × (c < 0 + room_cords r)
        apart c u l h e (before o) = omega arith
        apart c u l h e (behind i o) =
            let z : (cord_at q i).server + length r.servers ≡ u + 0
            = sym (ap (λ (x : RoomCord). x.server) (cord_second i (second c i l o))) ∙ ap (λ (x : ℕ). (cord_at (joined r q) x).server) (sym o) ∙ e in
            absurd (omega arith)

    -- ---- So is the second, behind it

    pub second_inside : (same : q.scale ≡ r.scale) → RoomInside q (joined r q) (length r.nodes) (room_cords r) (length r.servers)
    second_inside same = record {
      scale = sym same;
      nodes_fit = omega (arith, nodes-joined);
      cords_fit = omega (arith, cords-count);
      servers_fit = omega (arith, servers-joined);
      parent = λ m l. ap (λ (n : Node). n.parent) (node_second m);
      limits = λ m l. ap limit (node_second m);
      rank = λ u l. ap (λ (s : Server). s.rank) (server_second u);
      least = λ u l. ap (λ (s : Server). s.least) (server_second u);
      greatest = λ u l. ap (λ (s : Server). s.greatest) (server_second u);
      server = λ c l. ap (λ (x : RoomCord). x.server) (cord_second c l);
      node = λ c l. ap (λ (x : RoomCord). x.node) (cord_second c l);
      share = λ c l. ap (λ (x : RoomCord). x.share) (cord_second c l);
      alone = λ m n l h e. alone m n l e (side (length r.nodes) m);
      bare = λ c n l h e. bare c n l e (side (room_cords r) c);
      apart = λ c u l h e. apart c u l e (side (room_cords r) c);
    }
      where
        alone : (m n : ℕ) → m < length (joined r q).nodes → parent_of (joined r q) m ≡ suc (n + length r.nodes) → Side (length r.nodes) m
            → (length r.nodes ≤ m) × (m < length r.nodes + length q.nodes)
        alone m n l e (before o) = absurd (omega (arith, facts.rises m o, ap (λ (x : Node). x.parent) (node_first m o)))
        alone m n l e (behind i o) = omega (arith, nodes-joined)

        bare : (c n : ℕ) → c < room_cords (joined r q) → (cord_at (joined r q) c).node ≡ suc (n + length r.nodes) → Side (room_cords r) c
            → (room_cords r ≤ c) × (c < room_cords r + room_cords q)
        bare c n l e (before o) = absurd (omega (arith, facts.here c o, ap (λ (x : RoomCord). x.node) (cord_first c o)))
        bare c n l e (behind i o) = omega (arith, cords-count)

        apart : (c u : ℕ) → c < room_cords (joined r q) → (cord_at (joined r q) c).server ≡ u + length r.servers → Side (room_cords r) c
            → (room_cords r ≤ c) × (c < room_cords r + room_cords q)
        apart c u l e (before o) = absurd (omega (arith, facts.served c o, ap (λ (x : RoomCord). x.server) (cord_first c o)))
        apart c u l e (behind i o) = omega (arith, cords-count)
