-- Both deals of a room whose table is accepted: each goes by wants that lie above the lows, and starts from watts that its Requests
-- have room for, so that what holds of every deal holds of both.
use mathlib.Core.Path.{◌≡◌, refl, sym, ap, ap₂, ◌∙◌, subst}
use mathlib.Core.Bool.{Bool, true, false, cond, ◌&&◌}
use mathlib.Core.List.{List, []}
use mathlib.Core.Logic.{◌⊎◌, inl, inr}
use Prim.Native.Nat.{ℕ, ◌*◌, ◌-◌, ◌≤◌, ◌<◌}
use native.Mathlib.Nat.{le_refl, le_trans, le_of_eq, eq-zero-or-pos, zero-mul}
use native.Mathlib.Omega.{arith}
use lib.Dec.{eqb, ltb}
use lib.ListN.{length}
use borrow.Author.Tests.{eqb-true, eq-eqb, ltb-true, lt-ltb}
use Rattle.figures.specs.Sums.{on, sum}
use Rattle.rooms.specs.Table.{Room, room_cords}
use Rattle.rooms.specs.Trees.{beneath, sum_beneath, ParentsFirst}
use Rattle.rooms.specs.Limits.{carried, limit, node_at, parent_of, hangs_beneath, lows_beneath}
use Rattle.rooms.proofs.All.{all_at}
use Rattle.rooms.proofs.Accepted.{CordAccepted, ServerAccepted, Accepted}
use Rattle.figures.proofs.Sums.{sum_cong}
use Rattle.figures.specs.Figures.{figures, at}
use Rattle.rooms.specs.Cords.{RoomCord, cord_at, server_at, server_of}
use Rattle.deals.specs.Wants.{need, needs, first_wants}
use Rattle.rooms.specs.Lists.{carried_by, lows_of, parents_of, nodes_of}
use Rattle.deals.specs.Metrics.{Deal, deal_from, deal_of}
use Rattle.deals.specs.SecondDeal.{least_over, loaded, load_of, usable, stranded, wants_after, first_deal, first_grants, first_usable, first_used, second_deal, second_wants, second_grants, caps}
use Rattle.deals.specs.Dealing.{granted}
use Rattle.deals.proofs.Requests.{Dealable, WholeWay}
use Rattle.figures.proofs.Lists.{figures-at, figures-length}
use Rattle.deals.proofs.Computed.{Startable, lows_startable, granted_way, granted_start}
use Rattle.deals.proofs.Starts.{Later, later_startable}
use Rattle.rooms.proofs.Carried.{carried_le}
use Rattle.rooms.proofs.Cords.{cords_of_all, lows-sum}
use Rattle.deals.proofs.RoomDeals.{levels_of-at, room_deal, deal_of_is}
use Rattle.deals.proofs.Loads.{carried_mono, load-within, load-reached, both, least_over_ge, least_over_start, least_over_le}

-- What the rules leave of one of the room's cords.
abbrev pub CordFacts : Room → RoomCord → Type 0
CordFacts r c = (c.server < length r.servers) × (1 ≤ c.node) × (c.node ≤ length r.nodes) × (c.share ≤ r.scale)

-- ---- Each figure of the lists

-- The leasts of the servers: what the lows are carried of.
abbrev leasts : Room → List ℕ
leasts r = figures (length r.servers) (λ v. (server_at r v).least)

pub needs-at : (r : Room) (demands : List ℕ) (v : ℕ) → v < length r.servers → at (needs r demands) v ≡ need (server_at r v) (at demands v)
unfolding needs
needs-at r demands v l = figures-at (length r.servers) v _ l

pub carried_by-at : (r : Room) (loads : List ℕ) (c : ℕ) → c < room_cords r
    → at (carried_by r loads) c ≡ carried r.scale (cord_at r c).share (at loads (cord_at r c).server)
unfolding carried_by
carried_by-at r loads c l = figures-at (room_cords r) c _ l

pub carried_by-length : (r : Room) (loads : List ℕ) → length (carried_by r loads) ≡ room_cords r
unfolding carried_by
carried_by-length r loads = figures-length (room_cords r) _

pub lows_of-length : (r : Room) → length (lows_of r) ≡ room_cords r
unfolding lows_of
lows_of-length r = carried_by-length r (leasts r)

pub usable_at : (r : Room) (need grants : List ℕ) (v : ℕ) → v < length r.servers
    → at (usable r need grants) v ≡ least_over (room_cords r) (loaded r v) (load_of r grants) (at need v)
unfolding usable
usable_at r need grants v l = figures-at (length r.servers) v _ l

pub stranded-at : (r : Room) (grants used : List ℕ) (c : ℕ) → c < room_cords r → at (stranded r grants used) c ≡ at grants c - at used c
unfolding stranded
stranded-at r grants used c l = figures-at (room_cords r) c _ l

pub stranded-count : (r : Room) (grants used : List ℕ) → length (stranded r grants used) ≡ room_cords r
unfolding stranded
stranded-count r grants used = figures-length (room_cords r) _

pub wants_after-at : (r : Room) (wants grants used : List ℕ) (c : ℕ) → c < room_cords r
    → at (wants_after r wants grants used) c ≡ cond (ltb 0 (at (stranded r grants used) c)) (at used c) (at wants c)
unfolding wants_after
wants_after-at r wants grants used c l = figures-at (room_cords r) c _ l

cond_ge : (t : Bool) {low a b : ℕ} → low ≤ a → low ≤ b → low ≤ cond t a b
cond_ge true h k = h
cond_ge false h k = k

cond_le : (t : Bool) {most a b : ℕ} → a ≤ most → b ≤ most → cond t a b ≤ most
cond_le true h k = h
cond_le false h k = k

yes_both : (a b : Bool) → a ≡ true → b ≡ true → a && b ≡ true
yes_both a b p q = ap₂ (λ (x y : Bool). x && y) p q

module _ (r : Room) (ok : Accepted r) where
  -- The parent's number of each node is not above the node's place.
  pub parents_below : ParentsFirst (length r.nodes) (parent_of r)
  parents_below m l = (ok.nodes m l).parent_to

  pub server_facts : (v : ℕ) → v < length r.servers → ServerAccepted r.scale (length r.nodes) (server_at r v)
  server_facts v l = all_at (ServerAccepted r.scale (length r.nodes)) r.servers ok.servers v _ l

  pub cord_facts : (c : ℕ) → c < room_cords r → CordFacts r (cord_at r c)
  cord_facts = cords_of_all (CordFacts r) r (λ v k lv lk.
      let s = all_at (CordAccepted r.scale (length r.nodes)) (server_at r v).cords (server_facts v lv).cords k (record { node = 0; share = 0 }) lk in
      (lv, s.node_from, s.node_to, s.share_to))

  pub lows_of-at : (c : ℕ) → c < room_cords r → at (lows_of r) c ≡ carried r.scale (cord_at r c).share (server_of r c).least
  unfolding lows_of
  lows_of-at c l =
      carried_by-at r (leasts r) c l
      ∙ ap (λ (z : ℕ). carried r.scale (cord_at r c).share z) (figures-at (length r.servers) (cord_at r c).server _ (cord_facts c l).0)

  -- ---- Carried figures

  pub carried_by_mono : (f g : List ℕ) → ((v : ℕ) → v < length r.servers → at f v ≤ at g v) → (c : ℕ) → c < room_cords r
      → at (carried_by r f) c ≤ at (carried_by r g) c
  carried_by_mono f g h c l =
      le_trans (le_of_eq (carried_by-at r f c l))
      (le_trans (carried_mono r.scale (cord_at r c).share (h (cord_at r c).server (cord_facts c l).0)) (le_of_eq (sym (carried_by-at r g c l))))

  -- What is carried of no less than each server's least is no less than the lows.
  pub carried_by-lows : (f : List ℕ) → ((v : ℕ) → v < length r.servers → (server_at r v).least ≤ at f v) → (c : ℕ) → c < room_cords r
      → at (lows_of r) c ≤ at (carried_by r f) c
  unfolding lows_of
  carried_by-lows f h = carried_by_mono (leasts r) f (λ v l. le_trans (le_of_eq (figures-at (length r.servers) v _ l)) (h v l))

  -- ---- Needs and usable watts

  pub need_ge : (demands : List ℕ) (v : ℕ) → v < length r.servers → (server_at r v).least ≤ at (needs r demands) v
  need_ge demands v l =
      let a : (server_at r v).least ≤ (server_at r v).greatest = (server_facts v l).ordered in
      le_trans (omega arith) (le_of_eq (sym (needs-at r demands v l)))

  pub need_le : (demands : List ℕ) (v : ℕ) → v < length r.servers → at (needs r demands) v ≤ (server_at r v).greatest
  need_le demands v l = le_trans (le_of_eq (needs-at r demands v l)) (omega arith)

  pub usable-need : (need grants : List ℕ) (v : ℕ) → v < length r.servers → at (usable r need grants) v ≤ at need v
  usable-need need grants v l = le_trans (le_of_eq (usable_at r need grants v l)) (least_over_start (room_cords r) (loaded r v) (load_of r grants) (at need v))

  -- Servers whose cords are granted what they carry of some loads, none above its need, can use those loads.
  usable_ge : (need grants loads : List ℕ) → ((v : ℕ) → v < length r.servers → at loads v ≤ at need v)
      → ((c : ℕ) → c < room_cords r → at (carried_by r loads) c ≤ at grants c)
      → (v : ℕ) → v < length r.servers → at loads v ≤ at (usable r need grants) v
  usable_ge need grants loads n h v l =
      le_trans
      (least_over_ge (room_cords r) (at loads v) (loaded r v) (load_of r grants) (at need v) (n v l) (λ c lc t.
      let q : (eqb (cord_at r c).server v ≡ true) × (ltb 0 (cord_at r c).share ≡ true) = both _ _ t in
      le_trans (le_of_eq (ap (at loads) (sym (eqb-true (cord_at r c).server v q.0))))
      (load-reached r.scale (cord_at r c).share (at loads (cord_at r c).server) (at grants c) ok.scaled.0 (ltb-true 0 (cord_at r c).share q.1)
      (le_trans (le_of_eq (sym (carried_by-at r loads c lc))) (h c lc)))))
      (le_of_eq (sym (usable_at r need grants v l)))

  -- So they can use their leasts, where no grant is below the low.
  pub usable-least : (need grants : List ℕ) → ((v : ℕ) → v < length r.servers → (server_at r v).least ≤ at need v)
      → ((c : ℕ) → c < room_cords r → at (lows_of r) c ≤ at grants c)
      → (v : ℕ) → v < length r.servers → (server_at r v).least ≤ at (usable r need grants) v
  unfolding lows_of
  usable-least need grants n h v l =
      let least : (v : ℕ) → v < length r.servers → at (leasts r) v ≡ (server_at r v).least = λ v l. figures-at (length r.servers) v _ l in
      le_trans (le_of_eq (sym (least v l))) (usable_ge need grants (leasts r) (λ v l. le_trans (le_of_eq (least v l)) (n v l)) h v l)

  -- A cord uses no more than its grant.
  pub used_granted : (need grants : List ℕ) (c : ℕ) → c < room_cords r → at (carried_by r (usable r need grants)) c ≤ at grants c
  used_granted need grants c l = le_trans (le_of_eq (carried_by-at r (usable r need grants) c l)) (go (eq-zero-or-pos (cord_at r c).share))
    where
      go : ((cord_at r c).share ≡ 0) ⊎ (0 < (cord_at r c).share)
          → carried r.scale (cord_at r c).share (at (usable r need grants) (cord_at r c).server) ≤ at grants c
      go (inl e) =
          carried_le r.scale (cord_at r c).share (at (usable r need grants) (cord_at r c).server) (at grants c) ok.scaled.0
          (le_trans (le_of_eq (ap (λ (z : ℕ). z * at (usable r need grants) (cord_at r c).server) e ∙ zero-mul _)) (omega arith))
      go (inr p) =
          load-within r.scale (cord_at r c).share (at (usable r need grants) (cord_at r c).server) (at grants c) ok.scaled.0 p
          (le_trans (le_of_eq (usable_at r need grants (cord_at r c).server (cord_facts c l).0))
          (least_over_le (room_cords r) (loaded r (cord_at r c).server) (load_of r grants) (at need (cord_at r c).server) c l
          (yes_both (eqb (cord_at r c).server (cord_at r c).server) (ltb 0 (cord_at r c).share)
          (eq-eqb (cord_at r c).server (cord_at r c).server refl) (lt-ltb 0 (cord_at r c).share p))))

  -- ---- A deal by wants at or above the lows

  -- The lows beneath a node, over the room's cords and over its lists.
  lows_are : (n : ℕ) → sum (room_cords r) (λ c. on (hangs_beneath r n (cord_at r c).node) (at (lows_of r) c)) ≡ lows_beneath r n
  lows_are n =
      sum_cong (room_cords r) _ _ (λ c l. ap (λ (z : ℕ). on (hangs_beneath r n (cord_at r c).node) z) (lows_of-at c l)) ∙ sym (lows-sum r (hangs_beneath r n))

  pub lows_under : (n : ℕ) → sum (length (nodes_of r)) (λ c. on (beneath (at (parents_of r)) (length (parents_of r)) n (at (nodes_of r) c)) (at (lows_of r) c)) ≡ lows_beneath r n
  unfolding deal_of deal_from
  lows_under n =
      ap (λ (d : Deal). sum d.cords (λ c. on (beneath d.parent d.nodes n (d.node c)) (d.low c))) (deal_of_is r [] []) ∙ lows_are n

  lows_fit : (n : ℕ) → n < length r.nodes
      → sum_beneath (length r.nodes) (parent_of r) (room_cords r) (λ c. (cord_at r c).node) n (at (lows_of r)) ≤ limit (node_at r n)
  unfolding sum_beneath
  lows_fit n l = le_trans (le_of_eq (lows_are n)) (ok.lows n l)

  pub room_dealable : (starts wants : List ℕ) → ((c : ℕ) → c < room_cords r → at (lows_of r) c ≤ at wants c) → Dealable (room_deal r starts wants)
  room_dealable starts wants h = record {
    rises = parents_below;
    here = λ c l. (cord_facts c l).2;
    hangs = λ c l. (cord_facts c l).1;
    ranks = λ c l. omega (arith, levels_of-at r c l, (server_facts (cord_at r c).server (cord_facts c l).0).rank_to);
    wants = h;
    lows = lows_fit;
  }

  pub dealable : (starts wants : List ℕ) → ((c : ℕ) → c < room_cords r → at (lows_of r) c ≤ at wants c) → Dealable (deal_of r starts wants)
  dealable starts wants h = subst Dealable (sym (deal_of_is r starts wants)) (room_dealable starts wants h)

  -- The grants of a deal by such wants, from starts that its Requests have room for, are a way of dealing the room.
  module _ (starts wants : List ℕ) (h : (c : ℕ) → c < room_cords r → at (lows_of r) c ≤ at wants c) (st : Startable (room_deal r starts wants)) where
    pub grants_way : WholeWay (room_deal r starts wants) (at (granted (deal_of r starts wants)))
    grants_way =
        subst (λ (d : Deal). WholeWay (room_deal r starts wants) (at (granted d))) (sym (deal_of_is r starts wants))
        (granted_way (room_deal r starts wants) (room_dealable starts wants h) st)

    grants_start : (c : ℕ) → c < room_cords r → at starts c ≤ at (granted (deal_of r starts wants)) c
    grants_start =
        subst (λ (d : Deal). (c : ℕ) → c < room_cords r → at starts c ≤ at (granted d) c) (sym (deal_of_is r starts wants))
        (granted_start (room_deal r starts wants) (room_dealable starts wants h) st)

  -- ---- The two deals

  module _ (demands : List ℕ) where
    pub first_wants-lows : (c : ℕ) → c < room_cords r → at (lows_of r) c ≤ at (first_wants r demands) c
    unfolding first_wants
    first_wants-lows = carried_by-lows (needs r demands) (need_ge demands)

    pub first_dealable : Dealable (first_deal r demands)
    unfolding first_deal
    first_dealable = dealable (lows_of r) (first_wants r demands) first_wants-lows

    -- In the first deal each cord starts from its low.
    pub first_starts : Startable (room_deal r (lows_of r) (first_wants r demands))
    first_starts = lows_startable (room_deal r (lows_of r) (first_wants r demands)) (room_dealable (lows_of r) (first_wants r demands) first_wants-lows) refl

    pub first_startable : Startable (first_deal r demands)
    unfolding first_deal
    first_startable = subst Startable (sym (deal_of_is r (lows_of r) (first_wants r demands))) first_starts

    first_way : WholeWay (room_deal r (lows_of r) (first_wants r demands)) (at (first_grants r demands))
    unfolding first_grants first_deal
    first_way = grants_way (lows_of r) (first_wants r demands) first_wants-lows first_starts

    first_least : (c : ℕ) → c < room_cords r → at (lows_of r) c ≤ at (first_grants r demands) c
    first_least = first_way.least

    pub first_most : (c : ℕ) → c < room_cords r → at (first_grants r demands) c ≤ at (first_wants r demands) c
    first_most = first_way.most

    pub first_used-lows : (c : ℕ) → c < room_cords r → at (lows_of r) c ≤ at (first_used r demands) c
    unfolding first_used first_usable
    first_used-lows = carried_by-lows (first_usable r demands) (usable-least (needs r demands) (first_grants r demands) (need_ge demands) first_least)

    pub first_used_wants : (c : ℕ) → c < room_cords r → at (first_used r demands) c ≤ at (first_wants r demands) c
    unfolding first_used first_usable first_wants
    first_used_wants = carried_by_mono (first_usable r demands) (needs r demands) (usable-need (needs r demands) (first_grants r demands))

    pub first_used-granted : (c : ℕ) → c < room_cords r → at (first_used r demands) c ≤ at (first_grants r demands) c
    unfolding first_used first_usable
    first_used-granted = used_granted (needs r demands) (first_grants r demands)

    pub second_wants-lows : (c : ℕ) → c < room_cords r → at (lows_of r) c ≤ at (second_wants r demands) c
    unfolding second_wants
    second_wants-lows c l =
        le_trans (cond_ge (ltb 0 (at (stranded r (first_grants r demands) (first_used r demands)) c)) (first_used-lows c l) (first_wants-lows c l))
        (le_of_eq (sym (wants_after-at r (first_wants r demands) (first_grants r demands) (first_used r demands) c l)))

    pub second_wants_wants : (c : ℕ) → c < room_cords r → at (second_wants r demands) c ≤ at (first_wants r demands) c
    unfolding second_wants
    second_wants_wants c l =
        le_trans (le_of_eq (wants_after-at r (first_wants r demands) (first_grants r demands) (first_used r demands) c l))
        (cond_le (ltb 0 (at (stranded r (first_grants r demands) (first_used r demands)) c)) (first_used_wants c l) (le_refl (at (first_wants r demands) c)))

    pub first_used-second_wants : (c : ℕ) → c < room_cords r → at (first_used r demands) c ≤ at (second_wants r demands) c
    unfolding second_wants
    first_used-second_wants c l =
        le_trans (cond_ge (ltb 0 (at (stranded r (first_grants r demands) (first_used r demands)) c)) (le_refl (at (first_used r demands) c)) (first_used_wants c l))
        (le_of_eq (sym (wants_after-at r (first_wants r demands) (first_grants r demands) (first_used r demands) c l)))

    pub second_dealable : Dealable (second_deal r demands)
    unfolding second_deal
    second_dealable = dealable (first_used r demands) (second_wants r demands) second_wants-lows

    -- In the second each starts from its used watts, which were granted in the first.
    pub second_later : Later (room_deal r (lows_of r) (first_wants r demands)) (at (second_wants r demands)) (at (first_used r demands))
    unfolding first_grants first_deal
    second_later = record {
      ok = room_dealable (lows_of r) (first_wants r demands) first_wants-lows;
      st = first_starts;
      ko = room_dealable (first_used r demands) (second_wants r demands) second_wants-lows;
      lows = first_used-lows;
      wants = first_used-second_wants;
      grants =
          subst (λ (d : Deal). (c : ℕ) → c < room_cords r → at (first_used r demands) c ≤ at (granted d) c) (deal_of_is r (lows_of r) (first_wants r demands)) first_used-granted;
      less = second_wants_wants;
    }

    pub second_starts : Startable (room_deal r (first_used r demands) (second_wants r demands))
    second_starts = later_startable (room_deal r (lows_of r) (first_wants r demands)) (at (second_wants r demands)) (at (first_used r demands)) second_later

    pub second_startable : Startable (second_deal r demands)
    unfolding second_deal
    second_startable = subst Startable (sym (deal_of_is r (first_used r demands) (second_wants r demands))) second_starts

    -- The second deal, by functions of place.
    abbrev pub second_room_deal : Deal
    second_room_deal = room_deal r (first_used r demands) (second_wants r demands)

    pub second_room_deal_dealable : Dealable second_room_deal
    second_room_deal_dealable = room_dealable (first_used r demands) (second_wants r demands) second_wants-lows

    -- What holds of it holds of the second deal.
    pub of_second_room_deal : (P : Deal → Type 0) → P second_room_deal → P (second_deal r demands)
    unfolding second_deal
    of_second_room_deal P = subst P (sym (deal_of_is r (first_used r demands) (second_wants r demands)))

    second_way : WholeWay (room_deal r (first_used r demands) (second_wants r demands)) (at (second_grants r demands))
    unfolding second_grants second_deal
    second_way = grants_way (first_used r demands) (second_wants r demands) second_wants-lows second_starts

    pub second_grants_used : (c : ℕ) → c < room_cords r → at (first_used r demands) c ≤ at (second_grants r demands) c
    unfolding second_grants second_deal
    second_grants_used = grants_start (first_used r demands) (second_wants r demands) second_wants-lows second_starts

    second_least : (c : ℕ) → c < room_cords r → at (lows_of r) c ≤ at (second_grants r demands) c
    second_least = second_way.least

    pub caps-least : (v : ℕ) → v < length r.servers → (server_at r v).least ≤ at (caps r demands) v
    unfolding caps
    caps-least = usable-least (needs r demands) (second_grants r demands) (need_ge demands) second_least

    pub caps-usable : (v : ℕ) → v < length r.servers → at (first_usable r demands) v ≤ at (caps r demands) v
    unfolding caps first_usable first_used
    caps-usable =
        usable_ge (needs r demands) (second_grants r demands) (first_usable r demands)
        (usable-need (needs r demands) (first_grants r demands)) second_grants_used

    pub caps-need : (v : ℕ) → v < length r.servers → at (caps r demands) v ≤ at (needs r demands) v
    unfolding caps
    caps-need = usable-need (needs r demands) (second_grants r demands)

    pub caps_used_granted : (c : ℕ) → c < room_cords r → at (carried_by r (caps r demands)) c ≤ at (second_grants r demands) c
    unfolding caps
    caps_used_granted = used_granted (needs r demands) (second_grants r demands)
