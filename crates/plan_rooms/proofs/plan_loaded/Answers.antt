-- `plan_loaded` meets its contract: both deals are made of the fronts of the room's lists, and what follows these is the plan.
-- ---- The start
-- ---- After `list_nodes`
-- ---- After both deals
-- ---- After `name_holders`, and after `lend`
-- ---- The needs
use mathlib.Core.Path.{◌≡◌, sym, ◌∙◌}
use mathlib.Core.List.{List}
use Prim.Native.Nat.{ℕ, ◌≤◌}
use native.Mathlib.Omega.{arith}
use lib.ListN.{length, take, replicate}
use Rattle.rooms.specs.Table.{Room, most_nodes, most_cords}
use Rattle.rooms.specs.Lists.{limits_of, levels_of, lows_of}
use Rattle.rooms.specs.Rows.{nodes_in}
use Rattle.deals.specs.SecondDeal.{first_used}
use Rattle.figures.proofs.Cells.{zeros-front}
use Rattle.figures.proofs.Fronts.{equal_length, front_length, Lent, lent, lent-zeros, rejoined, lent_again, lent_few, lent-front}
use Rattle.plan_headroom.specs.Lending.{LendGiven}
use Rattle.plan_holders.specs.Holding.{HeldLists}
use Rattle.plan_rooms.specs.Planning.{RoomToDeal, DealtTwice, PlanGiven}
use Rattle.deals.proofs.Plans.{each}
use Rattle.plan_rooms.proofs.Planning.{blank_marks, second_dealt}
use Rattle.plan_rooms.proofs.Following.{held-lists, lend_given, held_made, headroom_made}
use Rattle.plan_rooms.proofs.Given.{given_ok, nodes_few, cords_few, parents_long, spare_long, cords_long, lows_long, wants_long, headroom_long, caps_long, to_deal, ceilings_given, stands}
use Rattle.plan_rooms.proofs.plan_loaded.Goals as goal

-- A list of zeros is long enough.
blank-long : {n most : ℕ} → n ≤ most → n ≤ length {A = ℕ} (replicate most 0)
blank-long {most = most} few = omega (arith, equal_length {A = ℕ} most 0)

pub slice_bounds-list_nodes-end : goal.slice_bounds-list_nodes-end
slice_bounds-list_nodes-end c = front_length _ _ (cords_long c.requires.room.given)

pub slice_bounds-nodes-end : goal.slice_bounds-nodes-end
slice_bounds-nodes-end c = blank-long (cords_few c.requires.room.given)

pub slice_bounds-list_nodes-end-2 : goal.slice_bounds-list_nodes-end-2
slice_bounds-list_nodes-end-2 c = sym (zeros-front most_cords _ (cords_few c.requires.room.given))

pub list_nodes-requires : goal.list_nodes-requires
list_nodes-requires c =
    record { size = zeros-front most_cords _ (cords_few c.requires.room.given) ∙ front_length _ _ (cords_long c.requires.room.given) }

pub slice_bounds-deal_twice-end : goal.slice_bounds-deal_twice-end
slice_bounds-deal_twice-end c = front_length _ _ (parents_long c.requires.room.given)

pub slice_bounds-deal_twice-end-2 : goal.slice_bounds-deal_twice-end-2
slice_bounds-deal_twice-end-2 c = front_length _ _ (cords_long c.requires.room.given)

pub slice_bounds-nodes-end-2 : goal.slice_bounds-nodes-end-2
slice_bounds-nodes-end-2 c =
    let nodes-back : List ℕ = c.list_nodes.new.nodes in
    let nodes-lent : Lent c.args.counts.cords (replicate most_cords 0) nodes-back = lent-zeros most_cords (cords_few c.requires.room.given) c.list_nodes.auto.nodes in
    lent_few nodes-lent

pub slice_bounds-deal_twice-end-3 : goal.slice_bounds-deal_twice-end-3
slice_bounds-deal_twice-end-3 c =
    let nodes-back : List ℕ = c.list_nodes.new.nodes in
    let nodes-lent : Lent c.args.counts.cords (replicate most_cords 0) nodes-back = lent-zeros most_cords (cords_few c.requires.room.given) c.list_nodes.auto.nodes in
    lent-front nodes-lent

pub slice_bounds-deal_twice-end-4 : goal.slice_bounds-deal_twice-end-4
slice_bounds-deal_twice-end-4 c = lows_long c.requires.room.given

pub slice_bounds-deal_twice-end-5 : goal.slice_bounds-deal_twice-end-5
slice_bounds-deal_twice-end-5 c = front_length _ _ (lows_long c.requires.room.given)

pub slice_bounds-deal_twice-end-6 : goal.slice_bounds-deal_twice-end-6
slice_bounds-deal_twice-end-6 c = wants_long c.requires.room.given

pub slice_bounds-deal_twice-end-7 : goal.slice_bounds-deal_twice-end-7
slice_bounds-deal_twice-end-7 c = front_length _ _ (wants_long c.requires.room.given)

pub slice_bounds-deal_twice-end-8 : goal.slice_bounds-deal_twice-end-8
slice_bounds-deal_twice-end-8 c = spare_long c.requires.room.given

pub slice_bounds-deal_twice-end-9 : goal.slice_bounds-deal_twice-end-9
slice_bounds-deal_twice-end-9 c = front_length _ _ (spare_long c.requires.room.given)

pub slice_bounds-cuts-end : goal.slice_bounds-cuts-end
slice_bounds-cuts-end c = blank-long (nodes_few c.requires.room.given)

pub slice_bounds-deal_twice-end-10 : goal.slice_bounds-deal_twice-end-10
slice_bounds-deal_twice-end-10 c = sym (zeros-front most_nodes _ (nodes_few c.requires.room.given))

pub slice_bounds-deal_twice-end-13 : goal.slice_bounds-deal_twice-end-13
slice_bounds-deal_twice-end-13 c = caps_long c.requires.room.given

pub slice_bounds-deal_twice-end-14 : goal.slice_bounds-deal_twice-end-14
slice_bounds-deal_twice-end-14 c = front_length _ _ (caps_long c.requires.room.given)

pub deal_twice-freed-requires : goal.deal_twice-freed-requires
deal_twice-freed-requires c =
    let nodes-after : List ℕ = rejoined c.args.counts.cords (replicate most_cords 0) c.list_nodes.new.nodes in
    let nodes-lent : Lent c.args.counts.cords (replicate most_cords 0) c.list_nodes.new.nodes = lent-zeros most_cords (cords_few c.requires.room.given) c.list_nodes.auto.nodes in
    let nodes_listed : take c.args.counts.cords nodes-after ≡ nodes_in (take c.args.counts.cords c.args.cords.now) = lent_again nodes-lent ∙ c.list_nodes.ensures.listed in
    record {
      room = record { table = c.requires.room.table; demands = c.requires.room.demands; room = c.requires.room.room; end = c.requires.room.given.end; is = c.requires.room.given.is; lists = to_deal c.requires.room.given nodes_listed };
      blank = (
        blank_marks (nodes_few c.requires.room.given) (front_length _ _ (parents_long c.requires.room.given)),
        sym (front_length _ _ c.requires.space.0) ∙ lent-front nodes-lent,
      );
    }

pub slice_bounds-name_holders-end : goal.slice_bounds-name_holders-end
slice_bounds-name_holders-end c = front_length _ _ (parents_long c.requires.room.given)

pub slice_bounds-cuts-end-2 : goal.slice_bounds-cuts-end-2
slice_bounds-cuts-end-2 c =
    let cuts_back : List ℕ = c.deal_twice-freed.new.cuts in
    let cuts_lent : Lent c.args.counts.nodes (replicate most_nodes 0) cuts_back = lent-zeros most_nodes (nodes_few c.requires.room.given) c.deal_twice-freed.auto.cuts in
    lent_few cuts_lent

pub slice_bounds-name_holders-end-2 : goal.slice_bounds-name_holders-end-2
slice_bounds-name_holders-end-2 c =
    let cuts_back : List ℕ = c.deal_twice-freed.new.cuts in
    let cuts_lent : Lent c.args.counts.nodes (replicate most_nodes 0) cuts_back = lent-zeros most_nodes (nodes_few c.requires.room.given) c.deal_twice-freed.auto.cuts in
    lent-front cuts_lent

pub slice_bounds-name_holders-end-3 : goal.slice_bounds-name_holders-end-3
slice_bounds-name_holders-end-3 c = front_length _ _ (cords_long c.requires.room.given)

pub slice_bounds-name_holders-end-4 : goal.slice_bounds-name_holders-end-4
slice_bounds-name_holders-end-4 c =
    let wants_back : List ℕ = c.deal_twice-freed.new.wants in
    let wants_lent : Lent c.args.counts.cords c.args.wants.now wants_back = lent (wants_long c.requires.room.given) c.deal_twice-freed.auto.wants in
    lent_few wants_lent

pub slice_bounds-name_holders-end-5 : goal.slice_bounds-name_holders-end-5
slice_bounds-name_holders-end-5 c =
    let wants_back : List ℕ = c.deal_twice-freed.new.wants in
    let wants_lent : Lent c.args.counts.cords c.args.wants.now wants_back = lent (wants_long c.requires.room.given) c.deal_twice-freed.auto.wants in
    lent-front wants_lent

pub name_holders-requires : goal.name_holders-requires
name_holders-requires c =
    let GivenAt : (table demands : List ℕ) → Room → Type 0 = λ table demands r. PlanGiven table demands r c.args.counts c.args.parents.now c.args.left.now c.args.cords.now c.args.lows.now c.args.wants.now
    c.args.headroom.now c.args.caps.now in
    let nodes-after : List ℕ = rejoined c.args.counts.cords (replicate most_cords 0) c.list_nodes.new.nodes in
    let nodes-lent : Lent c.args.counts.cords (replicate most_cords 0) c.list_nodes.new.nodes = lent-zeros most_cords (cords_few c.requires.room.given) c.list_nodes.auto.nodes in
    let nodes_listed : take c.args.counts.cords nodes-after ≡ nodes_in (take c.args.counts.cords c.args.cords.now) = lent_again nodes-lent ∙ c.list_nodes.ensures.listed in
    let wants-after : List ℕ = rejoined c.args.counts.cords c.args.wants.now c.deal_twice-freed.new.wants in
    let wants_lent : Lent c.args.counts.cords c.args.wants.now c.deal_twice-freed.new.wants = lent (wants_long c.requires.room.given) c.deal_twice-freed.auto.wants in
    let left_after : List ℕ = rejoined c.args.counts.nodes c.args.left.now c.deal_twice-freed.new.left in
    let left_lent : Lent c.args.counts.nodes c.args.left.now c.deal_twice-freed.new.left = lent (spare_long c.requires.room.given) c.deal_twice-freed.auto.left in
    let grants_after : List ℕ = rejoined c.args.counts.cords c.args.grants.now c.deal_twice-freed.new.grants in
    let grants_lent : Lent c.args.counts.cords c.args.grants.now c.deal_twice-freed.new.grants = lent c.requires.space.0 c.deal_twice-freed.auto.grants in
    let caps-after : List ℕ = rejoined c.args.counts.servers c.args.caps.now c.deal_twice-freed.new.caps in
    let caps-lent : Lent c.args.counts.servers c.args.caps.now c.deal_twice-freed.new.caps = lent (caps_long c.requires.room.given) c.deal_twice-freed.auto.caps in
    let cuts_after : List ℕ = rejoined c.args.counts.nodes (replicate most_nodes 0) c.deal_twice-freed.new.cuts in
    let cuts_lent : Lent c.args.counts.nodes (replicate most_nodes 0) c.deal_twice-freed.new.cuts = lent-zeros most_nodes (nodes_few c.requires.room.given) c.deal_twice-freed.auto.cuts in
    let lists_z : (table demands : List ℕ) (r : Room) → GivenAt table demands r → RoomToDeal r demands (take c.args.counts.nodes c.args.parents.now) (take c.args.counts.nodes c.args.left.now) (take c.args.counts.cords c.args.cords.now) (take c.args.counts.cords nodes-after) (take c.args.counts.cords c.args.lows.now) (take c.args.counts.cords c.args.wants.now) (take c.args.counts.servers c.args.caps.now) c.args.counts.scale = λ table demands r g. to_deal g nodes_listed in
    let dealt_z : (table demands : List ℕ) (r : Room) → GivenAt table demands r → DealtTwice r demands c.deal_twice-freed.result (take c.args.counts.cords wants-after) (take c.args.counts.nodes left_after) (take c.args.counts.nodes cuts_after) (take c.args.counts.cords grants_after) (take c.args.counts.servers caps-after) = λ table demands r g. rw (lent_again wants_lent, lent_again left_lent, lent_again cuts_lent, lent_again grants_lent, lent_again caps-lent)
    (c.deal_twice-freed.ensures.dealt table demands r g.end g.is (lists_z table demands r g)) in
    let held_z : (table demands : List ℕ) (r : Room) → GivenAt table demands r → HeldLists (take c.args.counts.nodes c.args.parents.now) (take c.args.counts.nodes cuts_after) (take c.args.counts.cords c.args.cords.now) (take c.args.counts.cords wants-after) (take c.args.counts.cords grants_after) = λ table demands r g. held-lists (given_ok g) (lists_z table demands r g) (dealt_z table demands r g) (sym (lent-front cuts_lent) ∙ front_length _ _ (parents_long g)) in
    record { lists = (held_z _ _ _ c.requires.room.given, sym (front_length _ _ c.requires.space.1) ∙ front_length _ _ (cords_long c.requires.room.given)) }

pub slice_bounds-lend-end : goal.slice_bounds-lend-end
slice_bounds-lend-end c = front_length _ _ (parents_long c.requires.room.given)

pub slice_bounds-nodes-end-3 : goal.slice_bounds-nodes-end-3
slice_bounds-nodes-end-3 c =
    let nodes-back : List ℕ = c.list_nodes.new.nodes in
    let nodes-lent : Lent c.args.counts.cords (replicate most_cords 0) nodes-back = lent-zeros most_cords (cords_few c.requires.room.given) c.list_nodes.auto.nodes in
    lent_few nodes-lent

pub slice_bounds-lend-end-2 : goal.slice_bounds-lend-end-2
slice_bounds-lend-end-2 c =
    let nodes-back : List ℕ = c.list_nodes.new.nodes in
    let nodes-lent : Lent c.args.counts.cords (replicate most_cords 0) nodes-back = lent-zeros most_cords (cords_few c.requires.room.given) c.list_nodes.auto.nodes in
    lent-front nodes-lent

pub slice_bounds-lend-end-3 : goal.slice_bounds-lend-end-3
slice_bounds-lend-end-3 c =
    let wants_back : List ℕ = c.deal_twice-freed.new.wants in
    let wants_lent : Lent c.args.counts.cords c.args.wants.now wants_back = lent (wants_long c.requires.room.given) c.deal_twice-freed.auto.wants in
    lent_few wants_lent

pub slice_bounds-lend-end-4 : goal.slice_bounds-lend-end-4
slice_bounds-lend-end-4 c =
    let wants_back : List ℕ = c.deal_twice-freed.new.wants in
    let wants_lent : Lent c.args.counts.cords c.args.wants.now wants_back = lent (wants_long c.requires.room.given) c.deal_twice-freed.auto.wants in
    lent-front wants_lent

pub slice_bounds-lend-end-5 : goal.slice_bounds-lend-end-5
slice_bounds-lend-end-5 c =
    let left_back : List ℕ = c.deal_twice-freed.new.left in
    let left_lent : Lent c.args.counts.nodes c.args.left.now left_back = lent (spare_long c.requires.room.given) c.deal_twice-freed.auto.left in
    lent_few left_lent

pub slice_bounds-lend-end-6 : goal.slice_bounds-lend-end-6
slice_bounds-lend-end-6 c =
    let left_back : List ℕ = c.deal_twice-freed.new.left in
    let left_lent : Lent c.args.counts.nodes c.args.left.now left_back = lent (spare_long c.requires.room.given) c.deal_twice-freed.auto.left in
    lent-front left_lent

pub slice_bounds-lend-end-7 : goal.slice_bounds-lend-end-7
slice_bounds-lend-end-7 c = lows_long c.requires.room.given

pub slice_bounds-lend-end-8 : goal.slice_bounds-lend-end-8
slice_bounds-lend-end-8 c = front_length _ _ (lows_long c.requires.room.given)

pub slice_bounds-lend-end-9 : goal.slice_bounds-lend-end-9
slice_bounds-lend-end-9 c = headroom_long c.requires.room.given

pub slice_bounds-lend-end-10 : goal.slice_bounds-lend-end-10
slice_bounds-lend-end-10 c = front_length _ _ (headroom_long c.requires.room.given)

pub lend-requires : goal.lend-requires
lend-requires c =
    let GivenAt : (table demands : List ℕ) → Room → Type 0 = λ table demands r. PlanGiven table demands r c.args.counts c.args.parents.now c.args.left.now c.args.cords.now c.args.lows.now c.args.wants.now
    c.args.headroom.now c.args.caps.now in
    let nodes-after : List ℕ = rejoined c.args.counts.cords (replicate most_cords 0) c.list_nodes.new.nodes in
    let nodes-lent : Lent c.args.counts.cords (replicate most_cords 0) c.list_nodes.new.nodes = lent-zeros most_cords (cords_few c.requires.room.given) c.list_nodes.auto.nodes in
    let nodes_listed : take c.args.counts.cords nodes-after ≡ nodes_in (take c.args.counts.cords c.args.cords.now) = lent_again nodes-lent ∙ c.list_nodes.ensures.listed in
    let wants-after : List ℕ = rejoined c.args.counts.cords c.args.wants.now c.deal_twice-freed.new.wants in
    let wants_lent : Lent c.args.counts.cords c.args.wants.now c.deal_twice-freed.new.wants = lent (wants_long c.requires.room.given) c.deal_twice-freed.auto.wants in
    let left_after : List ℕ = rejoined c.args.counts.nodes c.args.left.now c.deal_twice-freed.new.left in
    let left_lent : Lent c.args.counts.nodes c.args.left.now c.deal_twice-freed.new.left = lent (spare_long c.requires.room.given) c.deal_twice-freed.auto.left in
    let grants_after : List ℕ = rejoined c.args.counts.cords c.args.grants.now c.deal_twice-freed.new.grants in
    let grants_lent : Lent c.args.counts.cords c.args.grants.now c.deal_twice-freed.new.grants = lent c.requires.space.0 c.deal_twice-freed.auto.grants in
    let caps-after : List ℕ = rejoined c.args.counts.servers c.args.caps.now c.deal_twice-freed.new.caps in
    let caps-lent : Lent c.args.counts.servers c.args.caps.now c.deal_twice-freed.new.caps = lent (caps_long c.requires.room.given) c.deal_twice-freed.auto.caps in
    let cuts_after : List ℕ = rejoined c.args.counts.nodes (replicate most_nodes 0) c.deal_twice-freed.new.cuts in
    let cuts_lent : Lent c.args.counts.nodes (replicate most_nodes 0) c.deal_twice-freed.new.cuts = lent-zeros most_nodes (nodes_few c.requires.room.given) c.deal_twice-freed.auto.cuts in
    let lists_z : (table demands : List ℕ) (r : Room) → GivenAt table demands r → RoomToDeal r demands (take c.args.counts.nodes c.args.parents.now) (take c.args.counts.nodes c.args.left.now) (take c.args.counts.cords c.args.cords.now) (take c.args.counts.cords nodes-after) (take c.args.counts.cords c.args.lows.now) (take c.args.counts.cords c.args.wants.now) (take c.args.counts.servers c.args.caps.now) c.args.counts.scale = λ table demands r g. to_deal g nodes_listed in
    let dealt_z : (table demands : List ℕ) (r : Room) → GivenAt table demands r → DealtTwice r demands c.deal_twice-freed.result (take c.args.counts.cords wants-after) (take c.args.counts.nodes left_after) (take c.args.counts.nodes cuts_after) (take c.args.counts.cords grants_after) (take c.args.counts.servers caps-after) = λ table demands r g. rw (lent_again wants_lent, lent_again left_lent, lent_again cuts_lent, lent_again grants_lent, lent_again caps-lent)
    (c.deal_twice-freed.ensures.dealt table demands r g.end g.is (lists_z table demands r g)) in
    let lend_z : (table demands : List ℕ) (r : Room) → GivenAt table demands r → LendGiven (take c.args.counts.nodes c.args.parents.now) (take c.args.counts.cords nodes-after) (take c.args.counts.cords wants-after) (take c.args.counts.nodes left_after) (take c.args.counts.cords c.args.headroom.now) (limits_of r) (levels_of r) (lows_of r) (first_used r demands) = λ table demands r g. lend_given (given_ok g) (lists_z table demands r g) (dealt_z table demands r g) (ceilings_given g) (sym (lent-front left_lent) ∙ front_length _ _ (parents_long g)) in
    record {
      lists = (
        record { limits = limits_of c.requires.room.room; levels = levels_of c.requires.room.room; lows = lows_of c.requires.room.room; starts = first_used c.requires.room.room c.requires.room.demands; given = lend_z _ _ _ c.requires.room.given },
        sym (front_length _ _ (lows_long c.requires.room.given)) ∙ lent-front nodes-lent,
      );
    }

pub returns : goal.returns
returns c =
    let GivenAt : (table demands : List ℕ) → Room → Type 0 = λ table demands r. PlanGiven table demands r c.args.counts c.args.parents.now c.args.left.now c.args.cords.now c.args.lows.now c.args.wants.now
    c.args.headroom.now c.args.caps.now in
    let nodes-after : List ℕ = rejoined c.args.counts.cords (replicate most_cords 0) c.list_nodes.new.nodes in
    let nodes-lent : Lent c.args.counts.cords (replicate most_cords 0) c.list_nodes.new.nodes = lent-zeros most_cords (cords_few c.requires.room.given) c.list_nodes.auto.nodes in
    let nodes_listed : take c.args.counts.cords nodes-after ≡ nodes_in (take c.args.counts.cords c.args.cords.now) = lent_again nodes-lent ∙ c.list_nodes.ensures.listed in
    let wants-after : List ℕ = rejoined c.args.counts.cords c.args.wants.now c.deal_twice-freed.new.wants in
    let wants_lent : Lent c.args.counts.cords c.args.wants.now c.deal_twice-freed.new.wants = lent (wants_long c.requires.room.given) c.deal_twice-freed.auto.wants in
    let left_after : List ℕ = rejoined c.args.counts.nodes c.args.left.now c.deal_twice-freed.new.left in
    let left_lent : Lent c.args.counts.nodes c.args.left.now c.deal_twice-freed.new.left = lent (spare_long c.requires.room.given) c.deal_twice-freed.auto.left in
    let grants_after : List ℕ = rejoined c.args.counts.cords c.args.grants.now c.deal_twice-freed.new.grants in
    let grants_lent : Lent c.args.counts.cords c.args.grants.now c.deal_twice-freed.new.grants = lent c.requires.space.0 c.deal_twice-freed.auto.grants in
    let caps-after : List ℕ = rejoined c.args.counts.servers c.args.caps.now c.deal_twice-freed.new.caps in
    let caps-lent : Lent c.args.counts.servers c.args.caps.now c.deal_twice-freed.new.caps = lent (caps_long c.requires.room.given) c.deal_twice-freed.auto.caps in
    let cuts_after : List ℕ = rejoined c.args.counts.nodes (replicate most_nodes 0) c.deal_twice-freed.new.cuts in
    let cuts_lent : Lent c.args.counts.nodes (replicate most_nodes 0) c.deal_twice-freed.new.cuts = lent-zeros most_nodes (nodes_few c.requires.room.given) c.deal_twice-freed.auto.cuts in
    let lists_z : (table demands : List ℕ) (r : Room) → GivenAt table demands r → RoomToDeal r demands (take c.args.counts.nodes c.args.parents.now) (take c.args.counts.nodes c.args.left.now) (take c.args.counts.cords c.args.cords.now) (take c.args.counts.cords nodes-after) (take c.args.counts.cords c.args.lows.now) (take c.args.counts.cords c.args.wants.now) (take c.args.counts.servers c.args.caps.now) c.args.counts.scale = λ table demands r g. to_deal g nodes_listed in
    let dealt_z : (table demands : List ℕ) (r : Room) → GivenAt table demands r → DealtTwice r demands c.deal_twice-freed.result (take c.args.counts.cords wants-after) (take c.args.counts.nodes left_after) (take c.args.counts.nodes cuts_after) (take c.args.counts.cords grants_after) (take c.args.counts.servers caps-after) = λ table demands r g. rw (lent_again wants_lent, lent_again left_lent, lent_again cuts_lent, lent_again grants_lent, lent_again caps-lent)
    (c.deal_twice-freed.ensures.dealt table demands r g.end g.is (lists_z table demands r g)) in
    let held_z : (table demands : List ℕ) (r : Room) → GivenAt table demands r → HeldLists (take c.args.counts.nodes c.args.parents.now) (take c.args.counts.nodes cuts_after) (take c.args.counts.cords c.args.cords.now) (take c.args.counts.cords wants-after) (take c.args.counts.cords grants_after) = λ table demands r g. held-lists (given_ok g) (lists_z table demands r g) (dealt_z table demands r g) (sym (lent-front cuts_lent) ∙ front_length _ _ (parents_long g)) in
    let lend_z : (table demands : List ℕ) (r : Room) → GivenAt table demands r → LendGiven (take c.args.counts.nodes c.args.parents.now) (take c.args.counts.cords nodes-after) (take c.args.counts.cords wants-after) (take c.args.counts.nodes left_after) (take c.args.counts.cords c.args.headroom.now) (limits_of r) (levels_of r) (lows_of r) (first_used r demands) = λ table demands r g. lend_given (given_ok g) (lists_z table demands r g) (dealt_z table demands r g) (ceilings_given g) (sym (lent-front left_lent) ∙ front_length _ _ (parents_long g)) in
    record {
      planned =
          λ table demands r g.
          let ok = given_ok g in
          let of = lists_z _ _ _ g in
          let dealt = dealt_z _ _ _ g in
          let lent_out = c.lend.ensures.lent (limits_of r) (levels_of r) (lows_of r) (first_used r demands) (lend_z _ _ _ g) in
          record {
            freed_is = dealt.freed_is;
            lists_are = each _ (stands grants_lent _ (sym (lent_again grants_lent) ∙ second_dealt ok of dealt.made))
                (stands caps-lent _ (sym (lent_again caps-lent) ∙ dealt.caps_are))
                (stands (lent (headroom_long c.requires.room.given) c.lend.auto.headroom) _ (headroom_made ok of dealt (ceilings_given g) lent_out))
                (stands (lent c.requires.space.1 c.name_holders.auto.held) _ (held_made ok of dealt (held_z _ _ _ g) c.name_holders.ensures.named));
          };
    }
