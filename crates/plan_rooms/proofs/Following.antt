-- What follows both deals in a room's lists: what naming the holders and lending the headroom ask, and that the plan they leave is what
-- its definition says.
use mathlib.Core.Path.{◌≡◌, sym, ap, ◌∙◌}
use mathlib.Core.List.{List}
use Prim.Native.Nat.{ℕ}
use native.Mathlib.Omega.{arith}
use lib.ListN.{length}
use Rattle.figures.specs.Figures.{at}
use Rattle.figures.proofs.Lists.{figures-length}
use Rattle.rooms.specs.Table.{Room, room_cords}
use Rattle.rooms.specs.Lists.{limits_of, nodes_of, levels_of, lows_of}
use Rattle.rooms.specs.declared.lists.CordRow.{CordRow}
use Rattle.rooms.proofs.Accepted.{Accepted}
use Rattle.deals.specs.Metrics.{deal_from, deal_of}
use Rattle.deals.specs.Dealing.{granted}
use Rattle.deals.specs.SecondDeal.{wants_after, first_used, second_deal, second_wants}
use Rattle.deals.specs.Headroom.{ceilings_of, headroom_over}
use Rattle.deals.specs.Headroom as lending
use Rattle.deals.specs.Held as holding
use Rattle.deals.proofs.RoomDeals.{nodes_of-length}
use Rattle.deals.proofs.BothDeals.{cord_facts}
use Rattle.deals.proofs.RoomHeadroom.{ceilings_count, ceilings_most, wants_ceilings}
use Rattle.plan_headroom.specs.Lending.{LendGiven}
use Rattle.plan_holders.specs.Holding.{HeldLists, held_from}
use Rattle.plan_holders.proofs.Naming.{held_second}
use Rattle.layout.proofs.Rows.{cords-count, node_stands}
use Rattle.plan_rooms.specs.Planning.{RoomToDeal, DealtTwice}
use Rattle.plan_rooms.proofs.Planning.{lists_second, levels_nodes, levels_cords, second_dealt}

-- ---- After both deals

module _ {r : Room} (ok : Accepted r) {demands parents spare : List ℕ} {cords : List CordRow} {nodes lows wants needed : List ℕ} {scale : ℕ}
    (of : RoomToDeal r demands parents spare cords nodes lows wants needed scale)
    {watts : ℕ} {given left cuts grants caps : List ℕ}
    (dealt : DealtTwice r demands watts given left cuts grants caps) where
  given-count : length given ≡ length cords
  unfolding second_wants wants_after
  given-count = ap length dealt.wants_are ∙ figures-length (room_cords r) _ ∙ sym (cords-count of.lists.cords_are.rows_are)

  grants_count : length grants ≡ length cords
  unfolding second_deal deal_of deal_from granted
  grants_count = ap length dealt.made.grants_are ∙ figures-length (length (nodes_of r)) _ ∙ nodes_of-length r ∙ sym (cords-count of.lists.cords_are.rows_are)

  -- What naming the holders asks.
  pub held-lists : length cuts ≡ length parents → HeldLists parents cuts cords given grants
  held-lists size =
      let rows = of.lists.cords_are.rows_are in
      let of_nodes = levels_nodes ok of in
      let of_cords = levels_cords ok of in
      record {
        of_nodes = record { few = of_nodes.0; rises = of_nodes.1; cuts_size = size };
        few = of_cords.few;
        wants_size = given-count;
        grants_size = grants_count;
        hangs = λ c l. omega (arith, node_stands rows c, cords-count rows, (cord_facts r ok c (omega (arith, cords-count rows))).1);
        within = of_cords.within;
        ranked = of_cords.ranked;
      }

  -- What lending the headroom asks, with the deal's other lists.
  pub lend_given : {ceilings : List ℕ} → ceilings ≡ ceilings_of r → length left ≡ length parents
      → LendGiven parents nodes given left ceilings (limits_of r) (levels_of r) (lows_of r) (first_used r demands)
  unfolding second_deal deal_of deal_from
  lend_given e size =
      let n = nodes_of-length r in
      rw (e, of.lists.parents_are, of.nodes_are, dealt.wants_are)
      (record {
        lists = lists_second ok of;
        left_size = size ∙ ap length of.lists.parents_are;
        left_is = dealt.made.left_is;
        ceilings_size = ceilings_count r ok demands ∙ sym n;
        wanted = λ c l. wants_ceilings r ok demands c (omega (arith, n));
        most = λ c l. ceilings_most r ok demands c (omega (arith, n));
      })

  -- What both leave is the plan's.
  pub held_made : {held : List ℕ} → HeldLists parents cuts cords given grants → held ≡ held_from parents cuts cords given grants → held ≡ holding.held r demands
  held_made lists named = named ∙ is lists
    where
      is : HeldLists parents cuts cords given grants → held_from parents cuts cords given grants ≡ holding.held r demands
      is =
          rw (of.lists.parents_are, dealt.wants_are)
          (λ lists. held_second r demands lists of.lists.cords_are.rows_are (second_dealt ok of dealt.made) dealt.made.cuts_are)

  pub headroom_made : {ceilings headroom : List ℕ} → ceilings ≡ ceilings_of r
      → headroom ≡ headroom_over (deal_from parents (limits_of r) nodes (levels_of r) (lows_of r) (first_used r demands) given) (at ceilings)
      → headroom ≡ lending.headroom r demands
  unfolding second_deal deal_of lending.headroom
  headroom_made e lent = lent ∙ rw (e, of.lists.parents_are, of.nodes_are, dealt.wants_are)
