-- One room inside another: its nodes, servers and cords stand together there, so many places on, and nothing else hangs on its nodes or
-- its servers. Where demands agree, from a rank on, so do needs, wants, grants, used watts and caps of those ranks. (One room with two
-- demand lists: each is inside the other, no place on. The two halves of a joined room: from the lowest rank on.)
use mathlib.Core.Path.{◌≡◌, refl, sym, ap, ap₂, ◌∙◌, subst}
use mathlib.Core.Bool.{Bool, false, cond, ◌&&◌}
use mathlib.Core.List.{List}
use Prim.Native.Nat.{ℕ, suc, ◌+◌, ◌*◌, ◌-◌, ◌/◌, ◌≤◌, ◌<◌, min, max}
use native.Mathlib.Omega.{arith}
use lib.Dec.{eqb, ltb}
use lib.ListN.{length}
use borrow.Author.Tests.{eqb-true, ne_eqb}
use Rattle.figures.specs.Figures.{at}
use Rattle.rooms.specs.Table.{raised, Room, room_cords}
use Rattle.rooms.specs.Limits.{limit, carried, node_at, parent_of}
use Rattle.rooms.proofs.Accepted.{Accepted}
use Rattle.rooms.specs.Cords.{cord_at, server_at, rank_of}
use Rattle.rooms.specs.Lists.{carried_by, levels_of, lows_of}
use Rattle.deals.specs.Wants.{needs, first_wants}
use Rattle.deals.specs.Metrics.{Deal, deal_of}
use Rattle.deals.specs.Dealing.{granted}
use Rattle.deals.specs.SecondDeal.{loaded, load_of, usable, stranded, first_deal, first_grants, first_usable, first_used, second_deal, second_wants, second_grants, caps}
use Rattle.deals.proofs.Inside.{Inside, eqb_iff, granted_in}
use Rattle.deals.proofs.Loads.{both, least_over_cong, least_window}
use Rattle.deals.proofs.RoomDeals.{levels_of-at, room_deal, deal_of_is}
use Rattle.deals.proofs.BothDeals.{needs-at, carried_by-at, usable_at, stranded-at, wants_after-at, server_facts, cord_facts, lows_of-at, room_dealable, first_wants-lows, second_wants-lows}

-- The room r stands in q: its nodes a places on, its cords b, its servers v.
pub record RoomInside (r q : Room) (a b v : ℕ) : Type 0 where
  pub scale : q.scale ≡ r.scale
  pub nodes_fit : a + length r.nodes ≤ length q.nodes
  pub cords_fit : b + room_cords r ≤ room_cords q
  pub servers_fit : v + length r.servers ≤ length q.servers
  pub parent : (m : ℕ) → m < length r.nodes → parent_of q (m + a) ≡ raised a (parent_of r m)
  pub limits : (m : ℕ) → m < length r.nodes → limit (node_at q (m + a)) ≡ limit (node_at r m)
  pub rank : (u : ℕ) → u < length r.servers → (server_at q (u + v)).rank ≡ (server_at r u).rank
  pub least : (u : ℕ) → u < length r.servers → (server_at q (u + v)).least ≡ (server_at r u).least
  pub greatest : (u : ℕ) → u < length r.servers → (server_at q (u + v)).greatest ≡ (server_at r u).greatest
  pub server : (c : ℕ) → c < room_cords r → (cord_at q (c + b)).server ≡ (cord_at r c).server + v
  pub node : (c : ℕ) → c < room_cords r → (cord_at q (c + b)).node ≡ raised a (cord_at r c).node
  pub share : (c : ℕ) → c < room_cords r → (cord_at q (c + b)).share ≡ (cord_at r c).share
  pub alone : (m n : ℕ) → m < length q.nodes → n < length r.nodes → parent_of q m ≡ suc (n + a) → (a ≤ m) × (m < a + length r.nodes)
  pub bare : (c n : ℕ) → c < room_cords q → n < length r.nodes → (cord_at q c).node ≡ suc (n + a) → (b ≤ c) × (c < b + room_cords r)
  pub apart : (c u : ℕ) → c < room_cords q → u < length r.servers → (cord_at q c).server ≡ u + v → (b ≤ c) × (c < b + room_cords r)

and_false : (s t : Bool) → s ≡ false → s && t ≡ false
and_false s t e = ap (λ (x : Bool). x && t) e

module _ (r q : Room) (a b v : ℕ) (ins : RoomInside r q a b v) (ok : Accepted r) (ko : Accepted q) where
  cord_in : (c : ℕ) → c < room_cords r → c + b < room_cords q
  cord_in c l = omega (arith, ins.cords_fit)

  -- A figure of a cord's server.
  of_server : (f g : ℕ → ℕ) (c : ℕ) → c < room_cords r → f ((cord_at r c).server + v) ≡ g (cord_at r c).server → f (cord_at q (c + b)).server ≡ g (cord_at r c).server
  of_server f g c l e = ap f (ins.server c l) ∙ e

  level_in : (c : ℕ) → c < room_cords r → at (levels_of q) (c + b) ≡ at (levels_of r) c
  level_in c l =
      levels_of-at q (c + b) (cord_in c l)
      ∙ ap (λ (x : ℕ). x - 1) (of_server (λ u. (server_at q u).rank) (λ u. (server_at r u).rank) c l (ins.rank (cord_at r c).server (cord_facts r ok c l).0))
      ∙ sym (levels_of-at r c l)

  carried_in : (c : ℕ) → c < room_cords r → (x y : ℕ) → x ≡ y → carried q.scale (cord_at q (c + b)).share x ≡ carried r.scale (cord_at r c).share y
  carried_in c l x y e = ap₂ (λ (k s : ℕ). carried k s x) ins.scale (ins.share c l) ∙ ap (carried r.scale (cord_at r c).share) e

  lows_in : (c : ℕ) → c < room_cords r → at (lows_of q) (c + b) ≡ at (lows_of r) c
  lows_in c l =
      lows_of-at q ko (c + b) (cord_in c l)
      ∙ carried_in c l _ _ (of_server (λ u. (server_at q u).least) (λ u. (server_at r u).least) c l (ins.least (cord_at r c).server (cord_facts r ok c l).0))
      ∙ sym (lows_of-at r ok c l)

  module _ (rank : ℕ) where
    -- A figure a cord, and a figure a server: those of q, at the places of r, are those of r, from a rank on.
    abbrev pub CordsIn : List ℕ → List ℕ → Type 0
    CordsIn f g = (c : ℕ) → c < room_cords r → rank ≤ rank_of r c → at f (c + b) ≡ at g c

    abbrev pub ServersIn : List ℕ → List ℕ → Type 0
    ServersIn f g = (u : ℕ) → u < length r.servers → rank ≤ (server_at r u).rank → at f (u + v) ≡ at g u

    -- A cord whose level is not below that of a rank is not below the rank.
    level_rank : (c : ℕ) → c < room_cords r → rank - 1 ≤ at (levels_of r) c → rank ≤ rank_of r c
    level_rank c l k = omega (arith, levels_of-at r c l, (server_facts r ok (cord_at r c).server (cord_facts r ok c l).0).rank_from)

    -- Deals from starts and by wants that agree are inside each other.
    pub deal_inside : (s f t g : List ℕ) → CordsIn s t → CordsIn f g → Inside (room_deal r t g) (room_deal q s f) a b (rank - 1)
    deal_inside s f t g h k = record {
      nodes_fit = ins.nodes_fit;
      cords_fit = ins.cords_fit;
      parent = ins.parent;
      node = ins.node;
      limit = ins.limits;
      level = level_in;
      low = lows_in;
      want = λ c l e. k c l (level_rank c l e);
      start = λ c l e. h c l (level_rank c l e);
      levels = refl;
      alone = ins.alone;
      bare = ins.bare;
    }

    grants_in : (s f t g : List ℕ) → CordsIn s t → CordsIn f g
        → ((c : ℕ) → c < room_cords q → at (lows_of q) c ≤ at f c) → ((c : ℕ) → c < room_cords r → at (lows_of r) c ≤ at g c)
        → CordsIn (granted (deal_of q s f)) (granted (deal_of r t g))
    grants_in s f t g h k lf lg c l e =
        ap (λ (d : Deal). at (granted d) (c + b)) (deal_of_is q s f)
        ∙ granted_in (room_deal r t g) (room_deal q s f) a b (rank - 1) (deal_inside s f t g h k) (room_dealable r ok t g lg) (room_dealable q ko s f lf) c l
        (omega (arith, levels_of-at r c l))
        ∙ ap (λ (d : Deal). at (granted d) c) (sym (deal_of_is r t g))

    pub carried_by_in : (f g : List ℕ) → ServersIn f g → CordsIn (carried_by q f) (carried_by r g)
    carried_by_in f g h c l k =
        carried_by-at q f (c + b) (cord_in c l)
        ∙ carried_in c l _ _ (of_server (at f) (at g) c l (h (cord_at r c).server (cord_facts r ok c l).0 k))
        ∙ sym (carried_by-at r g c l)

    -- Only a server's own cords bear on what it can use.
    no_load : (u c : ℕ) → ((cord_at q c).server ≡ u + v → ⊥) → loaded q (u + v) c ≡ false
    no_load u c n = and_false (eqb (cord_at q c).server (u + v)) (ltb 0 (cord_at q c).share) (ne_eqb (cord_at q c).server (u + v) n)

    loaded_in : (u c : ℕ) → c < room_cords r → loaded q (u + v) (c + b) ≡ loaded r u c
    loaded_in u c l =
        ap₂ (λ (t : Bool) (s : ℕ). t && ltb 0 s)
        (eqb_iff (cord_at q (c + b)).server (u + v) (cord_at r c).server u (λ e. omega (arith, ins.server c l)) (λ e. omega (arith, ins.server c l)))
        (ins.share c l)

    usable_in : (m n f g : List ℕ) → ServersIn m n → CordsIn f g → ServersIn (usable q m f) (usable r n g)
    usable_in m n f g h k u l e =
        usable_at q m f (u + v) (omega (arith, ins.servers_fit))
        ∙ least_window b (room_cords r) (room_cords q) (loaded q (u + v)) (load_of q f) (at m (u + v)) ins.cords_fit
        (λ i li o. no_load u i (λ x. omega (arith, ins.apart i u li l x)))
        (λ i li o. no_load u i (λ x. omega (arith, ins.apart i u li l x)))
        ∙ least_over_cong (room_cords r) _ (loaded r u) _ (load_of r g) (at m (u + v)) (at n u) (h u l e) (λ c lc. loaded_in u c lc) (λ c lc t.
        let own = eqb-true (cord_at r c).server u (both _ _ (sym (loaded_in u c lc) ∙ t)).0 in
        ap₂ (λ (x s : ℕ). q.scale * x / s) (k c lc (subst (λ (x : ℕ). rank ≤ (server_at r x).rank) (sym own) e)) (ins.share c lc)
        ∙ ap (λ (x : ℕ). x * at g c / (cord_at r c).share) ins.scale)
        ∙ sym (usable_at r n g u l)

    module _ (d e : List ℕ) (same : ServersIn d e) where
      pub needs_in : ServersIn (needs q d) (needs r e)
      needs_in u l k =
          needs-at q d (u + v) (omega (arith, ins.servers_fit))
          ∙ ap₂ (λ (x y : ℕ). min (max x y) (server_at q (u + v)).greatest) (same u l k) (ins.least u l)
          ∙ ap (min (max (at e u) (server_at r u).least)) (ins.greatest u l)
          ∙ sym (needs-at r e u l)

      first_wants_in : CordsIn (first_wants q d) (first_wants r e)
      unfolding first_wants
      first_wants_in = carried_by_in (needs q d) (needs r e) needs_in

      pub first_grants_in : CordsIn (first_grants q d) (first_grants r e)
      unfolding first_grants first_deal
      first_grants_in = grants_in (lows_of q) (first_wants q d) (lows_of r) (first_wants r e) (λ c l k. lows_in c l) first_wants_in (first_wants-lows q ko d) (first_wants-lows r ok e)

      pub first_usable_in : ServersIn (first_usable q d) (first_usable r e)
      unfolding first_usable
      first_usable_in = usable_in (needs q d) (needs r e) (first_grants q d) (first_grants r e) needs_in first_grants_in

      pub first_used_in : CordsIn (first_used q d) (first_used r e)
      unfolding first_used
      first_used_in = carried_by_in (first_usable q d) (first_usable r e) first_usable_in

      pub stranded_in : CordsIn (stranded q (first_grants q d) (first_used q d)) (stranded r (first_grants r e) (first_used r e))
      stranded_in c l k =
          stranded-at q (first_grants q d) (first_used q d) (c + b) (cord_in c l) ∙ ap₂ ◌-◌ (first_grants_in c l k) (first_used_in c l k)
          ∙ sym (stranded-at r (first_grants r e) (first_used r e) c l)

      pub second_wants_in : CordsIn (second_wants q d) (second_wants r e)
      unfolding second_wants
      second_wants_in c l k =
          wants_after-at q (first_wants q d) (first_grants q d) (first_used q d) (c + b) (cord_in c l)
          ∙ ap₂ (λ (x y : ℕ). cond (ltb 0 x) y (at (first_wants q d) (c + b))) (stranded_in c l k) (first_used_in c l k)
          ∙ ap (cond (ltb 0 (at (stranded r (first_grants r e) (first_used r e)) c)) (at (first_used r e) c)) (first_wants_in c l k)
          ∙ sym (wants_after-at r (first_wants r e) (first_grants r e) (first_used r e) c l)

      pub second_grants_in : CordsIn (second_grants q d) (second_grants r e)
      unfolding second_grants second_deal
      second_grants_in =
          grants_in (first_used q d) (second_wants q d) (first_used r e) (second_wants r e) first_used_in second_wants_in (second_wants-lows q ko d) (second_wants-lows r ok e)

      pub caps_in : ServersIn (caps q d) (caps r e)
      unfolding caps
      caps_in = usable_in (needs q d) (needs r e) (second_grants q d) (second_grants r e) needs_in second_grants_in
