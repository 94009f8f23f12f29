-- Both deals in a room's lists: what each call asks, and that what it leaves is what the plan's definition says.
use mathlib.Core.Path.{◌≡◌, refl, sym, ap, ◌∙◌, subst}
use mathlib.Core.Bool.{cond, ◌&&◌}
use mathlib.Core.List.{List}
use Prim.Native.Nat.{ℕ, ◌+◌, ◌-◌, ◌*◌, ◌/◌, ◌≤◌, ◌<◌}
use native.Mathlib.Nat.{le_trans, le_of_eq}
use native.Mathlib.Omega.{arith}
use lib.Dec.{eqb, ltb}
use lib.ListN.{length, take, replicate, get_or-map}
use lib.Seq.{get_or-take}
use Rattle.rooms.specs.Table.{Room, room_cords, most_nodes}
use Rattle.rooms.specs.Limits.{hangs_beneath}
use Rattle.rooms.proofs.Accepted.{Accepted}
use Rattle.figures.specs.Figures.{figures, at, sum_of}
use Rattle.figures.proofs.Lists.{figures-length}
use Rattle.figures.proofs.Filled.{zeros-at}
use Rattle.figures.proofs.Sums.{on_le, sum_le}
use Rattle.rooms.specs.Cords.{cord_at}
use Rattle.rooms.specs.Lists.{carried_by, lows_of, parents_of, limits_of, nodes_of, levels_of, shares_of, servers_of}
use Rattle.deals.specs.Wants.{needs, first_wants}
use Rattle.deals.specs.Metrics.{Deal, deal_from, deal_of}
use Rattle.deals.specs.Properties.{DealBounded, StartsFit}
use Rattle.deals.specs.Dealing.{granted}
use Rattle.deals.specs.SecondDeal.{least_over, usable, stranded, wants_after, first_deal, first_grants, first_usable, first_used, second_deal, second_wants, second_grants}
use Rattle.deals.specs.SecondDeal as second
use Rattle.deals.proofs.Requests.{Dealable, deal_beneath}
use Rattle.deals.proofs.RoomDeals.{deal_of_is, parents_of-length, limits_of-length, nodes_of-length, levels_of-length, shares_of-at, servers_of-at}
use Rattle.deals.proofs.BothDeals.{cord_facts, lows_of-length, carried_by-length, lows_under, grants_way, first_wants-lows, first_starts, first_used-granted, first_dealable, second_dealable}
use Rattle.deals.proofs.Bounds.{bounded}
use Rattle.deals.proofs.StartsFit.{first_fit, second_fit}
use Rattle.deals.specs.declared.levels.Level.{Level}
use Rattle.deals.specs.Levels.{LevelLists, RoomCords}
use Rattle.figures.proofs.Cells.{zeros-front}
use Rattle.deals.specs.Ranks.{DealLists, list_beneath, Spare, DealGiven, DealMade}
use Rattle.plan_reclaim.specs.Raising.{Raisable}
use Rattle.plan_reclaim.specs.Reclaimed.{ServerLists, usable_from, used_from, stranded_from, wants_from, freed_from}
use Rattle.plan_reclaim.proofs.Reclaiming.{usable-lists}
use Rattle.rooms.specs.Rows.{nodes_in, servers_in, levels_in, shares_in, no_cord_row, CordRows}
use Rattle.layout.proofs.Rows.{cords-count, server-at, share_at, carried_is}
use Rattle.plan_rooms.specs.Planning.{RoomToDeal}
use Rattle.rooms.specs.Trees.{sum_beneath, ParentsFirst}
use Rattle.rooms.specs.declared.lists.CordRow.{CordRow}
use Rattle.figures.specs.Places.{Zeros}

-- No node is marked as cut in a list of zeros.
pub blank_marks : {n size : ℕ} → n ≤ most_nodes → n ≡ size → Zeros size (take n (replicate most_nodes 0))
blank_marks {n} few e = record {
  size = zeros-front most_nodes n few ∙ e;
  none = λ m l. get_or-take n (replicate most_nodes 0) m 0 (omega arith) ∙ zeros-at most_nodes m;
}

-- ---- A deal of a room, in lists

-- What a deal asks of a room's lists, with starts and wants by which it is dealable, and its figures and starts fit.
module _ (r : Room) (ok : Accepted r) (starts wants : List ℕ) (starts_size : length starts ≡ room_cords r) (wants_size : length wants ≡ room_cords r)
    (d : Dealable (deal_of r starts wants)) (b : DealBounded (deal_of r starts wants)) (fit : StartsFit (deal_of r starts wants)) where
  pub room_lists : DealLists (parents_of r) (limits_of r) (nodes_of r) (levels_of r) (lows_of r) starts wants
  unfolding deal_of deal_from sum_beneath
  room_lists =
      let n = nodes_of-length r in
      record {
        of_nodes = record {
          few = omega (arith, parents_of-length r, ok.few_nodes);
          limits_size = limits_of-length r ∙ sym (parents_of-length r);
          rises = d.rises;
          most = b.limits;
        };
        of_cords = record {
          few = omega (arith, n, ok.few_cords);
          levels_size = levels_of-length r ∙ sym n;
          lows_size = lows_of-length r ∙ sym n;
          starts_size = starts_size ∙ sym n;
          wants_size = wants_size ∙ sym n;
          hangs = λ c l. omega (arith, d.hangs c l);
          within = d.here;
          ranked = d.ranks;
          least = b.lows;
          ordered = b.starts;
          most = b.wants;
        };
        lows-within = d.lows;
        starts_within = b.beneath;
        starts_fit = fit;
      }

-- The watts in use after the first deal keep the limits: they are no more than its grants.
used_within : (r : Room) → Accepted r → (demands : List ℕ) (n : ℕ) → n < length (parents_of r) → list_beneath (parents_of r) (nodes_of r) (first_used r demands) n ≤ at (limits_of r) n
unfolding deal_of deal_from sum_beneath first_grants first_deal
used_within r ok demands =
    subst (λ (d : Deal). (n : ℕ) → n < d.nodes → deal_beneath d n (at (first_used r demands)) ≤ d.limit n) (sym (deal_of_is r (lows_of r) (first_wants r demands)))
    (λ n l.
    le_trans (sum_le (room_cords r) _ _ (λ c h. on_le (hangs_beneath r n (cord_at r c).node) _ _ (λ t. first_used-granted r ok demands c h)))
    ((grants_way r ok (lows_of r) (first_wants r demands) (first_wants-lows r ok demands) (first_starts r ok demands)).within n l))

-- ---- After a deal, the lists' figures are the room's

module _ (r : Room) where
  usable_is : (needed grants : List ℕ) → length needed ≡ length r.servers → usable_from r.scale (shares_of r) (servers_of r) needed grants ≡ usable r needed grants
  unfolding usable
  usable_is needed grants e = λ i.
      figures (e i) (λ v.
      least_over (figures-length (room_cords r) (λ c. (cord_at r c).share) i) (λ c. eqb (servers_of-at r c i) v && ltb 0 (shares_of-at r c i))
      (λ c. r.scale * at grants c / shares_of-at r c i) (at needed v))

  module _ (used grants : List ℕ) (e : length used ≡ room_cords r) where
    stranded_is : stranded_from used grants ≡ stranded r grants used
    unfolding stranded
    stranded_is = ap (λ (n : ℕ). figures n (λ c. at grants c - at used c)) e

    wants_is : (wants : List ℕ) → wants_from used grants wants ≡ wants_after r wants grants used
    unfolding wants_after stranded
    wants_is wants = ap (λ (n : ℕ). figures n (λ c. cond (ltb 0 (at (figures n (λ c. at grants c - at used c)) c)) (at used c) (at wants c))) e

-- ---- Both deals

module _ {r : Room} (ok : Accepted r) {demands parents spare : List ℕ} {cords : List CordRow} {nodes lows wants needed : List ℕ} {scale : ℕ}
    (of : RoomToDeal r demands parents spare cords nodes lows wants needed scale) where
  abbrev rows : CordRows r cords
  rows = of.lists.cords_are.rows_are

  pub needs_size : length needed ≡ length r.servers
  unfolding needs
  needs_size = ap length of.lists.cords_are.needs_are ∙ figures-length (length r.servers) _

  pub cord-count : length cords ≡ length nodes
  cord-count = cords-count rows ∙ sym (ap length of.nodes_are ∙ nodes_of-length r)

  pub wants_count : length wants ≡ length nodes
  unfolding first_wants
  wants_count = ap length of.lists.cords_are.wants_are ∙ carried_by-length r (needs r demands) ∙ sym (ap length of.nodes_are ∙ nodes_of-length r)

  pub lists_first : DealLists (parents_of r) (limits_of r) (nodes_of r) (levels_of r) (lows_of r) (lows_of r) (first_wants r demands)
  unfolding first_deal first_wants
  lists_first =
      room_lists r ok (lows_of r) (first_wants r demands) (lows_of-length r) (carried_by-length r (needs r demands)) (first_dealable r ok demands) (bounded r ok demands).first (first_fit r ok demands)

  used_size : length (first_used r demands) ≡ room_cords r
  unfolding first_used
  used_size = carried_by-length r (first_usable r demands)

  pub lists_second : DealLists (parents_of r) (limits_of r) (nodes_of r) (levels_of r) (lows_of r) (first_used r demands) (second_wants r demands)
  unfolding second_deal second_wants wants_after
  lists_second =
      room_lists r ok (first_used r demands) (second_wants r demands) used_size (figures-length (room_cords r) _) (second_dealable r ok demands) (bounded r ok demands).second (second_fit r ok demands)

  -- What is asked of the levels, and what they leave.
  pub levels_nodes : (length parents ≤ most_nodes) × ParentsFirst (length parents) (at parents)
  levels_nodes = rw of.lists.parents_are (lists_first.of_nodes.few, lists_first.of_nodes.rises)

  pub levels_cords : RoomCords (length parents) cords
  levels_cords =
      let n = nodes_of-length r in
      let count : (c : ℕ) → c < length cords → c < length (nodes_of r) = λ c l. omega (arith, cords-count rows) in
      rw of.lists.parents_are
      (record {
        few = omega (arith, cords-count rows, ok.few_cords);
        within = λ c l.
            omega (arith, get_or-map (λ (row : CordRow). row.node) cords c no_cord_row, ap (λ (l : List ℕ). at l c) rows.nodes, lists_first.of_cords.within c (count c l));
        ranked = λ c l.
            omega (arith, get_or-map (λ (row : CordRow). row.level) cords c no_cord_row, ap (λ (l : List ℕ). at l c) rows.levels, lists_first.of_cords.ranked c (count c l));
      })

  -- What the limits have over the lows.
  spared : Spare parents (limits_of r) nodes lows spare
  unfolding sum_beneath
  spared =
      rw (of.lists.parents_are, of.nodes_are, of.lists.cords_are.lows_are)
      (record {
        size = of.lists.spare_size ∙ ap length of.lists.parents_are;
        over = λ n l. omega (arith, of.lists.spare_is n (omega (arith, parents_of-length r)), lows_under r ok n);
      })

  module _ {starts : List ℕ} (used : starts ≡ first_used r demands) where
    -- It is enough for the used watts.
    pub raisable : Raisable parents nodes lows starts spare
    raisable =
        let l = of.lists.cords_are in
        let lists : DealLists parents (limits_of r) nodes (levels_of r) lows starts (second_wants r demands) = rw (of.lists.parents_are, of.nodes_are, l.lows_are, used) lists_second in
        let within : (n : ℕ) → n < length parents → list_beneath parents nodes starts n ≤ at (limits_of r) n = rw (of.lists.parents_are, of.nodes_are, used) (used_within r ok demands) in
        record {
          few-nodes = lists.of_nodes.few;
          few = lists.of_cords.few;
          left_size = of.lists.spare_size;
          lows_size = lists.of_cords.lows_size;
          starts_size = lists.of_cords.starts_size;
          rises = lists.of_nodes.rises;
          hangs = lists.of_cords.hangs;
          within = lists.of_cords.within;
          least = lists.of_cords.least;
          most = λ c h. le_trans (lists.of_cords.ordered c h) (lists.of_cords.most c h);
          enough = λ n h. le_trans (within n h) (le_of_eq (sym (spared.over n h)));
        }

    -- What the limits have over the used watts, once these are taken.
    pub raised : {after : List ℕ} → length after ≡ length spare → ((n : ℕ) → n < length parents → at after n + list_beneath parents nodes starts n ≡ at spare n + list_beneath parents nodes lows n)
        → Spare parents (limits_of r) nodes starts after
    raised kept over = record {
      size = kept ∙ of.lists.spare_size;
      over = λ n l. over n l ∙ spared.over n l;
    }

  module _ {bounds : List Level} {order : List ℕ} {actives : List (List ℕ)} (listed : LevelLists parents (nodes_in cords) (levels_in cords) bounds order actives) where
    by_level : LevelLists parents nodes (levels_of r) bounds order actives
    by_level = rw (of.nodes_are, sym rows.nodes, sym rows.levels) listed

    -- What each deal asks.
    pub first_given : {left : List ℕ} → left ≡ spare → DealGiven parents bounds order actives nodes lows wants left (limits_of r) (levels_of r) lows
    first_given copied =
        let l = of.lists.cords_are in
        record { lists = rw (of.lists.parents_are, of.nodes_are, l.lows_are, l.wants_are) lists_first; by_level = by_level; spared = rw copied spared }

    pub second_given : {left starts given : List ℕ} → starts ≡ first_used r demands → given ≡ second_wants r demands → Spare parents (limits_of r) nodes starts left
        → DealGiven parents bounds order actives nodes starts given left (limits_of r) (levels_of r) lows
    second_given es ew over =
        let l = of.lists.cords_are in
        record { lists = rw (of.lists.parents_are, of.nodes_are, l.lows_are, es, ew) lists_second; by_level = by_level; spared = over }

  -- What each leaves.
  module _ {left cuts grants : List ℕ} where
    pub first_made : DealMade (deal_from parents (limits_of r) nodes (levels_of r) lows lows wants) left cuts grants → grants ≡ first_grants r demands
    unfolding first_grants first_deal deal_of
    first_made made =
        let l = of.lists.cords_are in
        let same : deal_from parents (limits_of r) nodes (levels_of r) lows lows wants ≡ first_deal r demands = rw (of.lists.parents_are, of.nodes_are, l.lows_are, l.wants_are) in
        subst (λ (d : Deal). grants ≡ granted d) same made.grants_are

    pub second_made : {starts given : List ℕ} → starts ≡ first_used r demands → given ≡ second_wants r demands
        → DealMade (deal_from parents (limits_of r) nodes (levels_of r) lows starts given) left cuts grants → DealMade (second_deal r demands) left cuts grants
    unfolding second_deal deal_of
    second_made {starts} {given} es ew made =
        let l = of.lists.cords_are in
        let same : deal_from parents (limits_of r) nodes (levels_of r) lows starts given ≡ second_deal r demands = rw (of.lists.parents_are, of.nodes_are, l.lows_are, es, ew) in
        subst (λ (d : Deal). DealMade d left cuts grants) same made

    pub second_dealt : DealMade (second_deal r demands) left cuts grants → grants ≡ second_grants r demands
    unfolding second_grants
    second_dealt made = made.grants_are

  -- What is asked after a deal, and what the servers can use of its grants.
  pub server-lists : {grant_count : ℕ} → grant_count ≡ length nodes → ServerLists scale cords needed grant_count
  server-lists g =
      let n = cords-count rows in
      record {
        scaled = rw of.scale_is ok.scaled;
        few = omega (arith, n, ok.few_cords);
        grants_size = g ∙ sym cord-count;
        within = λ c h. omega (arith, server-at rows c, (cord_facts r ok c (omega arith)).0, needs_size);
        parts = λ c h. omega (arith, of.scale_is, share_at rows c, (cord_facts r ok c (omega arith)).3);
        most = λ v h. rw of.lists.cords_are.needs_are ((bounded r ok demands).needs v (omega (arith, needs_size)));
      }

  pub usable_are : (grants : List ℕ) {watts : List ℕ} → watts ≡ usable_from scale (shares_in cords) (servers_in cords) needed grants → watts ≡ usable r (needs r demands) grants
  usable_are grants e =
      e ∙ rw (of.scale_is, rows.shares, rows.servers) (usable_is r needed grants needs_size) ∙ ap (λ (n : List ℕ). usable r n grants) of.lists.cords_are.needs_are

  -- After the first deal, with its grants and what the servers can use of them.
  module _ {grants watts : List ℕ} (dealt : grants ≡ first_grants r demands) (by : watts ≡ usable_from scale (shares_in cords) (servers_in cords) needed grants) where
    pub reclaim_asks : {grant_count : ℕ} → grant_count ≡ length nodes → ServerLists scale cords watts grant_count
    reclaim_asks g = rw by (usable-lists grants (server-lists g))

    pub first-used : {used : List ℕ} → used ≡ used_from scale (shares_in cords) (servers_in cords) watts → used ≡ first_used r demands
    unfolding first_used first_usable
    first-used e =
        e ∙ rw (of.scale_is, rows.shares, rows.servers) (carried_is r watts) ∙ ap (carried_by r) (usable_are grants by ∙ ap (usable r (needs r demands)) dealt)

    pub freed_is : {freed : ℕ} → freed ≡ freed_from scale (shares_in cords) (servers_in cords) watts grants → freed ≡ second.freed r demands
    unfolding second.freed
    freed_is e = e ∙ rw (first-used refl, dealt) (ap sum_of (stranded_is r (first_used r demands) (first_grants r demands) used_size))

    pub second-wants : {given : List ℕ} → given ≡ wants_from (used_from scale (shares_in cords) (servers_in cords) watts) grants wants → given ≡ second_wants r demands
    unfolding second_wants
    second-wants e =
        e ∙ rw (first-used refl, dealt, of.lists.cords_are.wants_are) (wants_is r (first_used r demands) (first_grants r demands) used_size (first_wants r demands))

  -- After the second: the caps.
  pub caps_are : {grants caps : List ℕ} → grants ≡ second_grants r demands → caps ≡ usable_from scale (shares_in cords) (servers_in cords) needed grants
      → caps ≡ second.caps r demands
  unfolding second.caps
  caps_are {grants} dealt e = usable_are grants e ∙ ap (usable r (needs r demands)) dealt
