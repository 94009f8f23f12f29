-- The words of a joined room are a good table, where no count is too large: its figures are in range, and the lows beneath each node are
-- those of its half.
use mathlib.Core.Path.{◌≡◌, refl, sym, ap, ap₂, ◌∙◌, subst}
use mathlib.Core.Bool.{Bool}
use mathlib.Core.List.{List, [], ◌∷◌, ◌++◌, map}
use Prim.Native.Nat.{ℕ, zero, suc, ◌+◌, ◌-◌, ◌≤◌, ◌<◌}
use native.Mathlib.Nat.{add-zero}
use native.Mathlib.Omega.{arith}
use lib.ListN.{length, length-map}
use lib.Dec.{eqb}
use Rattle.figures.specs.Figures.{total}
use Rattle.figures.specs.Sums.{on}
use Rattle.figures.proofs.Sums.{sum_cong}
use Rattle.rooms.specs.Part.{good}
use Rattle.rooms.specs.Table.{raised, Node, Cord, Server, Room, form_of, most_nodes, most_servers, most_cords, room_cords, share_of}
use Rattle.rooms.specs.Limits.{limit, carried, node_at, parent_of, hangs_beneath, lows_beneath, checked}
use Rattle.rooms.specs.Cords.{cord_at, server_at}
use Rattle.rooms.specs.Promises.{IsNode, Within}
use Rattle.rooms.proofs.All.{All}
use Rattle.rooms.proofs.Accepted.{CordAccepted, ServerAccepted, Accepted}
use Rattle.rooms.proofs.Cords.{lows-sum}
use Rattle.rooms.proofs.Trees.{sum_beneath_step, sum_beneath_unique}
use Rattle.rooms.specs.Words.{table_of, NodeInRange}
use Rattle.rooms.proofs.Tables.{Chain, RoomFits, table_reads}
use Rattle.rooms.proofs.Words.{servers-fit}
use Rattle.rooms.proofs.Promises.{refusal_nine}
use Rattle.deals.specs.Metrics.{Deal}
use Rattle.deals.proofs.Requests.{deal_beneath}
use Rattle.deals.proofs.BothDeals.{parents_below, cord_facts}
use Rattle.deals.proofs.Inside.{Inside, child_nodes_in, child_cords_in}
use Rattle.deals.proofs.RoomInside.{RoomInside}
use Rattle.join.specs.Joined.{raised_node, raised_cord, raised_server, joined}
use Rattle.join.proofs.JoinedRoom.{Linked, accepted_facts, total_kept, Side, before, behind, side, nodes-joined, servers-joined, cords-count, first_inside, second_inside}
use Rattle.rooms.specs.Trees.{sum_beneath, ParentsFirst}

-- ---- Figures in range

module _ {A : Type 0} (P : A → Type 0) where
  all_append : (l m : List A) → All P l → All P m → All P (l ++ m)
  unfolding All
  all_append [] m f g = g
  all_append (x ∷ l) m f g = (f.0, all_append l m f.1 g)

all_map : {A B : Type 0} (P : A → Type 0) (Q : B → Type 0) (f : A → B) → ((x : A) → P x → Q (f x)) → (l : List A) → All P l → All Q (map f l)
unfolding All
all_map P Q f h [] ps = tt
all_map P Q f h (x ∷ l) ps = (h x ps.0, all_map P Q f h l ps.1)

all_weaken : {A : Type 0} (P Q : A → Type 0) → ((x : A) → P x → Q x) → (l : List A) → All P l → All Q l
unfolding All
all_weaken P Q h [] ps = tt
all_weaken P Q h (x ∷ l) ps = (h x ps.0, all_weaken P Q h l ps.1)

abbrev pub Nodes : Bool → ℕ → List Node → Type 0
Nodes percents own l = Chain (NodeInRange percents) (λ own _. suc own) own l

nodes-append : (percents : Bool) (l m : List Node) (own : ℕ) → Nodes percents own l → Nodes percents (own + length l) m → Nodes percents own (l ++ m)
unfolding Chain
nodes-append percents [] m own f g = subst (λ (x : ℕ). Nodes percents x m) (add-zero own) g
nodes-append percents (n ∷ l) m own f g =
    (f.0, nodes-append percents l m (suc own) f.1 (subst (λ (x : ℕ). Nodes percents x m) (let q : own + suc (length l) ≡ suc own + length l = omega arith in q) g))

raised_below : (a v own : ℕ) → 1 ≤ own → v ≤ own - 1 → raised a v ≤ own + a - 1
raised_below a zero own h l = omega arith
raised_below a (suc v) own h l = omega arith

nodes-raised : (percents : Bool) (a : ℕ) (l : List Node) (own : ℕ) → 1 ≤ own → Nodes percents own l → Nodes percents (own + a) (map (raised_node a) l)
unfolding Chain
nodes-raised percents a [] own h f = tt
nodes-raised percents a (n ∷ l) own h f = (
  record { parent = raised_below a n.parent own h f.0.parent; rating = f.0.rating; percent = f.0.percent },
  subst (λ (x : ℕ). Nodes percents x (map (raised_node a) l)) (let q : suc own + a ≡ suc (own + a) = omega arith in q) (nodes-raised percents a l (suc own) (omega arith) f.1),
)

raised_from : (a v : ℕ) → 1 ≤ v → 1 ≤ raised a v
raised_from a zero h = absurd (omega arith)
raised_from a (suc v) h = omega arith

raised_to : (a v k : ℕ) → v ≤ k → raised a v ≤ a + k
raised_to a zero k h = omega arith
raised_to a (suc v) k h = omega arith

-- A server is accepted with other cords: as many, with shares that are whole, and each of them accepted.
pub with-cords : {scale k h : ℕ} {s : Server} (cords : List Cord) → ServerAccepted scale k s → length cords ≡ length s.cords → total share_of cords ≡ total share_of s.cords
    → All (CordAccepted scale h) cords → ServerAccepted scale h (record { rank = s.rank; least = s.least; greatest = s.greatest; cords = cords })
with-cords cords f count shares each = record {
  rank_from = f.rank_from;
  rank_to = f.rank_to;
  ordered = f.ordered;
  greatest_to = f.greatest_to;
  some_cords = omega (arith, f.some_cords);
  few_cords = omega (arith, f.few_cords);
  shares = shares ∙ f.shares;
  cords = each;
}

module _ (scale : ℕ) where
  cord_wider : (k h : ℕ) → k ≤ h → (c : Cord) → CordAccepted scale k c → CordAccepted scale h c
  cord_wider k h l c f = record { node_from = f.node_from; node_to = omega (arith, f.node_to); share_to = f.share_to }

  server_wider : (k h : ℕ) → k ≤ h → (s : Server) → ServerAccepted scale k s → ServerAccepted scale h s
  server_wider k h l s f = with-cords s.cords f refl refl (all_weaken _ _ (cord_wider k h l) s.cords f.cords)

  cord-raised : (a k : ℕ) (c : Cord) → CordAccepted scale k c → CordAccepted scale (a + k) (raised_cord a c)
  cord-raised a k c g = record { node_from = raised_from a c.node g.node_from; node_to = raised_to a c.node k g.node_to; share_to = g.share_to }

  server-raised : (a k : ℕ) (s : Server) → ServerAccepted scale k s → ServerAccepted scale (a + k) (raised_server a s)
  server-raised a k s f =
      with-cords _ f (length-map s.cords (raised_cord a)) (total_kept share_of (raised_cord a) (λ c. refl) s.cords)
      (all_map _ _ (raised_cord a) (cord-raised a k) s.cords f.cords)

-- ---- The lows beneath a node, of a room inside another

-- A room as a deal of lows alone.
abbrev plain : Room → Deal
plain r = record {
  nodes = length r.nodes;
  parent = parent_of r;
  limit = λ m. limit (node_at r m);
  cords = room_cords r;
  node = λ c. (cord_at r c).node;
  level = λ c. 0;
  low = λ c. carried r.scale (cord_at r c).share (server_at r (cord_at r c).server).least;
  want = λ c. carried r.scale (cord_at r c).share (server_at r (cord_at r c).server).least;
  start = λ c. carried r.scale (cord_at r c).share (server_at r (cord_at r c).server).least;
  levels = 1;
}

plain_lows : (r : Room) (n : ℕ) → deal_beneath (plain r) n (plain r).low ≡ lows_beneath r n
unfolding sum_beneath
plain_lows r n = sym (lows-sum r (hangs_beneath r n))

module _ (r q : Room) (a b v : ℕ) (ins : RoomInside r q a b v) (facts : Linked r) (other : Linked q) where
  low_in : (c : ℕ) → c < room_cords r → (plain q).low (c + b) ≡ (plain r).low c
  low_in c l =
      ap₂ (λ (k s : ℕ). carried k s (server_at q (cord_at q (c + b)).server).least) ins.scale (ins.share c l)
      ∙ ap (carried r.scale (cord_at r c).share) (ap (λ (u : ℕ). (server_at q u).least) (ins.server c l) ∙ ins.least (cord_at r c).server (facts.served c l))

  plain_inside : Inside (plain r) (plain q) a b 0
  plain_inside = record {
    nodes_fit = ins.nodes_fit;
    cords_fit = ins.cords_fit;
    parent = ins.parent;
    node = ins.node;
    limit = ins.limits;
    level = λ c l. refl;
    low = low_in;
    want = λ c l k. low_in c l;
    start = λ c l k. low_in c l;
    levels = refl;
    alone = ins.alone;
    bare = ins.bare;
  }

  pub lows_beneath_in : (n : ℕ) → n < length r.nodes → lows_beneath q (n + a) ≡ lows_beneath r n
  lows_beneath_in n l =
      sym (plain_lows q (n + a))
      ∙ sum_beneath_unique (length r.nodes) (parent_of r) facts.rises (room_cords r) (λ c. (cord_at r c).node) facts.here (plain r).low (λ n. sums (n + a)) (λ n l.
      sum_beneath_step (length q.nodes) (parent_of q) other.rises (room_cords q) (λ c. (cord_at q c).node) other.here (n + a) (plain q).low
      ∙ ap₂ ◌+◌
      (child_cords_in (plain r) (plain q) a b 0 plain_inside n l (plain q).low ∙ sum_cong (room_cords r) _ _ (λ c lc. ap (λ (e : ℕ). on (eqb (cord_at r c).node (suc n)) e) (low_in c lc)))
      (child_nodes_in (plain r) (plain q) a b 0 plain_inside n l sums)) n l
      ∙ plain_lows r n
    where
      sums : ℕ → ℕ
      sums n = deal_beneath (plain q) n (plain q).low

-- ---- The joined room

-- Two rooms may be joined: they have one scale, and none of their counts together is too large.
pub record MayJoin (r q : Room) : Type 0 where
  pub scale : q.scale ≡ r.scale
  pub nodes : length r.nodes + length q.nodes ≤ most_nodes
  pub servers : length r.servers + length q.servers ≤ most_servers
  pub cords : room_cords r + room_cords q ≤ most_cords

module _ (version : ℕ) (r q : Room) (fr : RoomFits version r) (fq : RoomFits version q) (ok : Accepted r) (ko : Accepted q) (may : MayJoin r q) where
  abbrev whole : Room
  whole = joined r q

  joined-servers : All (ServerAccepted r.scale (length whole.nodes)) whole.servers
  joined-servers =
      subst (λ (k : ℕ). All (ServerAccepted r.scale k) whole.servers) (sym (nodes-joined r q))
      (all_append _ r.servers _
      (all_weaken _ _ (server_wider r.scale (length r.nodes) (length r.nodes + length q.nodes) (omega arith)) r.servers ok.servers)
      (all_map _ _ (raised_server (length r.nodes)) (server-raised r.scale (length r.nodes) (length q.nodes)) q.servers
      (subst (λ (k : ℕ). All (ServerAccepted k (length q.nodes)) q.servers) may.scale ko.servers)))

  pub joined_fits : RoomFits version whole
  joined_fits = record {
    first = fr.first;
    newest = fr.newest;
    scaled = fr.scaled;
    some_nodes = omega (arith, nodes-joined r q, fr.some_nodes);
    few_nodes = omega (arith, nodes-joined r q, may.nodes);
    nodes = nodes-append (form_of version).percents r.nodes _ 1 fr.nodes (nodes-raised (form_of version).percents (length r.nodes) q.nodes 1 (omega arith) fq.nodes);
    few_servers = omega (arith, servers-joined r q, may.servers);
    servers = servers-fit r.scale (length whole.nodes) whole.servers 0 (omega (arith, cords-count r q, may.cords)) joined-servers;
  }

  parents_joined : ParentsFirst (length whole.nodes) (parent_of whole)
  parents_joined m l = go (side (length r.nodes) m)
    where
      go : Side (length r.nodes) m → parent_of whole m ≤ m
      go (before o) =
          subst (λ (x : ℕ). parent_of whole x ≤ m) (add-zero m)
          (subst (λ (x : ℕ). x ≤ m) (sym ((first_inside r q (accepted_facts r ok)).parent m o)) (raised_small (parent_of r m) m (parents_below r ok m o)))
        where
          raised_small : (v m : ℕ) → v ≤ m → raised 0 v ≤ m
          raised_small zero m h = omega arith
          raised_small (suc v) m h = omega arith
      go (behind i o) =
          let li : i < length q.nodes = omega (arith, nodes-joined r q) in
          subst (λ (x : ℕ). parent_of whole x ≤ x) (sym o)
          (subst (λ (x : ℕ). x ≤ i + length r.nodes) (sym ((second_inside r q (accepted_facts r ok) may.scale).parent i li)) (raised_near (length r.nodes) (parent_of q i) i (parents_below q ko i li)))
        where
          raised_near : (a v i : ℕ) → v ≤ i → raised a v ≤ i + a
          raised_near a zero i h = omega arith
          raised_near a (suc v) i h = omega arith

  nodes-here : (c : ℕ) → c < room_cords whole → (cord_at whole c).node ≤ length whole.nodes
  nodes-here c l = go (side (room_cords r) c)
    where
      go : Side (room_cords r) c → (cord_at whole c).node ≤ length whole.nodes
      go (before o) =
          subst (λ (x : ℕ). (cord_at whole x).node ≤ length whole.nodes) (add-zero c)
          (subst (λ (x : ℕ). x ≤ length whole.nodes) (sym ((first_inside r q (accepted_facts r ok)).node c o))
          (let h : raised 0 (cord_at r c).node ≤ 0 + length r.nodes = raised_to 0 (cord_at r c).node (length r.nodes) (cord_facts r ok c o).2 in omega (arith, nodes-joined r q)))
      go (behind i o) =
          let li : i < room_cords q = omega (arith, cords-count r q) in
          subst (λ (x : ℕ). (cord_at whole x).node ≤ length whole.nodes) (sym o)
          (subst (λ (x : ℕ). x ≤ length whole.nodes) (sym ((second_inside r q (accepted_facts r ok) may.scale).node i li))
          (let h = raised_to (length r.nodes) (cord_at q i).node (length q.nodes) (cord_facts q ko i li).2 in omega (arith, nodes-joined r q)))

  joined_served : (c : ℕ) → c < room_cords whole → (cord_at whole c).server < length whole.servers
  joined_served c l = go (side (room_cords r) c)
    where
      go : Side (room_cords r) c → (cord_at whole c).server < length whole.servers
      go (before o) =
          subst (λ (x : ℕ). (cord_at whole x).server < length whole.servers) (add-zero c)
          (omega (arith, (first_inside r q (accepted_facts r ok)).server c o, (cord_facts r ok c o).0, servers-joined r q))
      go (behind i o) =
          let li : i < room_cords q = omega (arith, cords-count r q) in
          subst (λ (x : ℕ). (cord_at whole x).server < length whole.servers) (sym o)
          (omega (arith, (second_inside r q (accepted_facts r ok) may.scale).server i li, (cord_facts q ko i li).0, servers-joined r q))

  joined_facts : Linked whole
  joined_facts = record { rises = parents_joined; here = nodes-here; served = joined_served }

  within : (n : ℕ) → IsNode whole n → Within whole n
  within n h = go (n - 1) (let z : n - 1 < length whole.nodes = omega arith in z) (side (length r.nodes) (n - 1))
    where
      go : (m : ℕ) → m < length whole.nodes → Side (length r.nodes) m → lows_beneath whole m ≤ limit (node_at whole m)
      go m l (before o) =
          subst (λ (x : ℕ). lows_beneath whole x ≤ limit (node_at whole x)) (add-zero m)
          (let e = lows_beneath_in r whole 0 0 0 (first_inside r q (accepted_facts r ok)) (accepted_facts r ok) joined_facts m o in
          let k = (first_inside r q (accepted_facts r ok)).limits m o in
          omega (arith, ok.lows m o))
      go m l (behind i o) =
          let li : i < length q.nodes = omega (arith, nodes-joined r q) in
          subst (λ (x : ℕ). lows_beneath whole x ≤ limit (node_at whole x)) (sym o)
          (let e = lows_beneath_in q whole (length r.nodes) (room_cords r) (length r.servers) (second_inside r q (accepted_facts r ok) may.scale) (accepted_facts q ko) joined_facts i li in
          let k = (second_inside r q (accepted_facts r ok) may.scale).limits i li in
          omega (arith, ko.lows i li))

  pub joined-checked : (let t = table_reads version whole joined_fits in checked (table_of version whole) 0 ≡ good whole t.next)
  joined-checked = let t = table_reads version whole joined_fits in refusal_nine.passed (table_of version whole) whole t.next t.is within
