-- `deal_twice` meets its contract: what each call leaves is what the next one asks.
use mathlib.Core.Path.{◌≡◌, refl, sym, ap, ◌∙◌}
use mathlib.Core.List.{List}
use Prim.Native.Nat.{ℕ, ◌+◌, ◌≤◌, ◌<◌}
use native.Mathlib.Omega.{arith}
use lib.ListN.{length, take, replicate}
use Rattle.figures.specs.Figures.{at}
use Rattle.figures.proofs.Stores.{sets_all}
use Rattle.rooms.specs.Table.{Room, most_nodes, most_cords, most_servers, highest_rank}
use Rattle.rooms.proofs.Accepted.{Accepted, accepted}
use Rattle.rooms.specs.Lists.{limits_of, levels_of}
use Rattle.rooms.specs.Rows.{nodes_in, servers_in, levels_in, shares_in}
use Rattle.rooms.specs.declared.lists.CordRow.{CordRow}
use Rattle.deals.specs.SecondDeal.{first_grants, first_used, second_deal, second_wants}
use Rattle.deals.specs.SecondDeal as second
use Rattle.deals.specs.Levels.{LevelLists, no_cords}
use Rattle.deals.specs.Ranks.{list_beneath, DealGiven, DealMade}
use Rattle.plan_reclaim.specs.Reclaimed.{usable_from}
use Rattle.figures.proofs.Cells.{zeros-front, zeros_rows}
use Rattle.figures.proofs.Fronts.{equal_length, Lent, lent, lent-zeros, rejoined, lent_again, lent_few, lent-front}
use Rattle.plan_rooms.specs.Planning.{RoomToDeal, SomeRoom}
use Rattle.plan_rooms.proofs.Planning.{blank_marks, needs_size, cord-count, wants_count, levels_nodes, levels_cords, first_given, first_made, raisable, raised, second_given, second_made, second_dealt, server-lists, reclaim_asks, first-used, freed_is, second-wants, caps_are}
use Rattle.plan_rooms.proofs.deal_twice.Goals as goal
use Rattle.plan_rooms.proofs.deal_twice.Goals.{After-reclaim-freed}

-- The room of the lists, and how many nodes, cords and servers it has.
module _ {parents spare : List ℕ} {cords : List CordRow} {nodes lows wants needed : List ℕ} {scale : ℕ} (some : SomeRoom parents spare cords nodes lows wants needed scale) where
  room_ok : Accepted some.room
  room_ok = accepted some.table some.room some.end some.is

  few_nodes : length parents ≤ most_nodes
  few_nodes = (levels_nodes room_ok some.lists).0

  few_cords : length nodes ≤ most_cords
  few_cords = omega (arith, (levels_cords room_ok some.lists).few, cord-count room_ok some.lists)

  few_servers : length needed ≤ most_servers
  few_servers = omega (arith, needs_size room_ok some.lists, room_ok.few_servers)

-- A list of zeros is long enough.
blank-long : {n most : ℕ} → n ≤ most → n ≤ length {A = ℕ} (replicate most 0)
blank-long {most = most} few = omega (arith, equal_length {A = ℕ} most 0)

-- ---- What the first deal and `reclaim` leave

module _ (c : After-reclaim-freed) where
  abbrev RoomOf : Room → List ℕ → Type 0
  RoomOf = λ r demands. RoomToDeal r demands c.args.parents.now c.args.left.now c.args.cords.now c.args.nodes.now c.args.lows.now c.args.wants.now c.args.caps.now c.args.scale

  room : Accepted c.requires.room.room
  room = room_ok c.requires.room

  abbrev nodes_s : ℕ
  nodes_s = length c.args.parents.now

  abbrev cords_s : ℕ
  cords_s = length c.args.nodes.now

  abbrev servers_s : ℕ
  servers_s = length c.args.caps.now

  nodes_few : nodes_s ≤ most_nodes
  nodes_few = few_nodes c.requires.room

  cords_few : cords_s ≤ most_cords
  cords_few = few_cords c.requires.room

  servers_few : servers_s ≤ most_servers
  servers_few = few_servers c.requires.room

  first_left_lent : Lent nodes_s (replicate most_nodes 0) c.copy.new.to
  first_left_lent = lent-zeros most_nodes nodes_few c.copy.auto.to

  needs-lent : Lent servers_s (replicate most_servers 0) c.copy-2.new.to
  needs-lent = lent-zeros most_servers servers_few c.copy-2.auto.to

  order_lent : Lent cords_s (replicate most_cords 0) c.list_levels.new.order
  order_lent = lent-zeros most_cords cords_few c.list_levels.auto.order

  abbrev needs-after : List ℕ
  needs-after = rejoined servers_s (replicate most_servers 0) c.copy-2.new.to

  usable-lent : Lent servers_s needs-after c.usable_of.new.usable
  usable-lent = lent (lent_few needs-lent) c.usable_of.auto.usable

  starts_lent : Lent cords_s (replicate most_cords 0) c.reclaim-freed.new.starts
  starts_lent = lent-zeros most_cords cords_few c.reclaim-freed.auto.starts

  abbrev first_left_after : List ℕ
  first_left_after = rejoined nodes_s (replicate most_nodes 0) c.copy.new.to

  first_left_is : take nodes_s first_left_after ≡ c.args.left.now
  first_left_is = lent_again first_left_lent ∙ c.copy.ensures.copied ∙ sets_all _ _ (zeros-front most_nodes _ nodes_few ∙ sym c.requires.room.lists.lists.spare_size)

  needs_are : take servers_s needs-after ≡ c.args.caps.now
  needs_are = lent_again needs-lent ∙ c.copy-2.ensures.copied ∙ sets_all _ _ (zeros-front most_servers _ servers_few)

  abbrev order_after : List ℕ
  order_after = rejoined cords_s (replicate most_cords 0) c.list_levels.new.order

  listed_at : LevelLists c.args.parents.now (nodes_in c.args.cords.now) (levels_in c.args.cords.now) c.list_levels.new.levels (take cords_s order_after) c.list_levels.new.actives
  listed_at = rw (lent_again order_lent) c.list_levels.ensures.listed

  first_lent : (r : Room) → Accepted r → (demands : List ℕ) → RoomOf r demands → DealGiven c.args.parents.now c.list_levels.new.levels (take cords_s order_after) c.list_levels.new.actives c.args.nodes.now c.args.lows.now c.args.wants.now (take nodes_s first_left_after) (limits_of r) (levels_of r) c.args.lows.now
  first_lent = λ r ok demands of. first_given ok of listed_at first_left_is

  first-grants : (r : Room) → Accepted r → (demands : List ℕ) → RoomOf r demands → c.deal.new.grants ≡ first_grants r demands
  first-grants = λ r ok demands of. first_made ok of (c.deal.ensures.dealt (limits_of r) (levels_of r) c.args.lows.now (first_lent _ ok _ of))

  abbrev usable_after : List ℕ
  usable_after = rejoined servers_s needs-after c.usable_of.new.usable

  usable_is : take servers_s usable_after ≡ usable_from c.args.scale (shares_in c.args.cords.now) (servers_in c.args.cords.now) c.args.caps.now c.deal.new.grants
  usable_is = lent_again usable-lent
      ∙ c.usable_of.ensures.usable
      ∙ ap (λ (needed : List ℕ). usable_from c.args.scale (shares_in c.args.cords.now) (servers_in c.args.cords.now) needed c.deal.new.grants) needs_are

  abbrev starts_after : List ℕ
  starts_after = rejoined cords_s (replicate most_cords 0) c.reclaim-freed.new.starts

  starts_are : (r : Room) → Accepted r → (demands : List ℕ) → RoomOf r demands → take cords_s starts_after ≡ first_used r demands
  starts_are = λ r ok demands of. lent_again starts_lent ∙ first-used ok of (first-grants _ ok _ of) usable_is c.reclaim-freed.ensures.starts

  wants_are : (r : Room) → Accepted r → (demands : List ℕ) → RoomOf r demands → c.reclaim-freed.new.wants ≡ second_wants r demands
  wants_are = λ r ok demands of. second-wants ok of (first-grants _ ok _ of) usable_is c.reclaim-freed.ensures.wants

  freed_q : (r : Room) → Accepted r → (demands : List ℕ) → RoomOf r demands → c.reclaim-freed.result ≡ second.freed r demands
  freed_q = λ r ok demands of. freed_is ok of (first-grants _ ok _ of) usable_is c.reclaim-freed.ensures.freed

  -- What the second deal is given, once the starts are raised.
  second_lent : {left : List ℕ} → length left ≡ length c.args.left.now
      → ((n : ℕ) → n < length c.args.parents.now → at left n + list_beneath c.args.parents.now c.args.nodes.now (take cords_s starts_after) n ≡ at c.args.left.now n + list_beneath c.args.parents.now c.args.nodes.now c.args.lows.now n)
      → (r : Room) → Accepted r → (demands : List ℕ) → RoomOf r demands
      → DealGiven c.args.parents.now c.list_levels.new.levels (take cords_s order_after) c.list_levels.new.actives c.args.nodes.now (take cords_s starts_after) c.reclaim-freed.new.wants left (limits_of r) (levels_of r) c.args.lows.now
  second_lent kept over r ok demands of = second_given ok of listed_at (starts_are _ ok _ of) (wants_are _ ok _ of) (raised ok of (starts_are _ ok _ of) kept over)

-- ---- The goals

pub slice_bounds-first_left-end : goal.slice_bounds-first_left-end
slice_bounds-first_left-end c = blank-long (few_nodes c.requires.room)

pub slice_bounds-copy-end : goal.slice_bounds-copy-end
slice_bounds-copy-end c = sym (zeros-front most_nodes _ (few_nodes c.requires.room))

pub slice_bounds-usable-end : goal.slice_bounds-usable-end
slice_bounds-usable-end c = blank-long (few_servers c.requires.room)

pub slice_bounds-copy-end-2 : goal.slice_bounds-copy-end-2
slice_bounds-copy-end-2 c = sym (zeros-front most_servers _ (few_servers c.requires.room))

pub slice_bounds-order-end : goal.slice_bounds-order-end
slice_bounds-order-end c = blank-long (few_cords c.requires.room)

pub slice_bounds-list_levels-end : goal.slice_bounds-list_levels-end
slice_bounds-list_levels-end c = sym (zeros-front most_cords _ (few_cords c.requires.room))

pub list_levels-requires : goal.list_levels-requires
list_levels-requires c =
    let room : Accepted c.requires.room.room = room_ok c.requires.room in
    let cords_s : ℕ = length c.args.nodes.now in
    let cords_few : cords_s ≤ most_cords = few_cords c.requires.room in
    record {
      nodes = levels_nodes room c.requires.room.lists;
      cords = (levels_cords room c.requires.room.lists, zeros-front most_cords _ cords_few ∙ sym (cord-count room c.requires.room.lists), zeros_rows highest_rank most_nodes);
      rows = equal_length highest_rank no_cords;
    }

pub slice_bounds-order-end-2 : goal.slice_bounds-order-end-2
slice_bounds-order-end-2 c = lent_few (lent-zeros most_cords (few_cords c.requires.room) c.list_levels.auto.order)

pub slice_bounds-deal-end : goal.slice_bounds-deal-end
slice_bounds-deal-end c = lent-front (lent-zeros most_cords (few_cords c.requires.room) c.list_levels.auto.order)

pub slice_bounds-first_left-end-2 : goal.slice_bounds-first_left-end-2
slice_bounds-first_left-end-2 c = lent_few (lent-zeros most_nodes (few_nodes c.requires.room) c.copy.auto.to)

pub slice_bounds-deal-end-2 : goal.slice_bounds-deal-end-2
slice_bounds-deal-end-2 c = lent-front (lent-zeros most_nodes (few_nodes c.requires.room) c.copy.auto.to)

pub slice_bounds-first_cuts-end : goal.slice_bounds-first_cuts-end
slice_bounds-first_cuts-end c = blank-long (few_nodes c.requires.room)

pub slice_bounds-deal-end-3 : goal.slice_bounds-deal-end-3
slice_bounds-deal-end-3 c = sym (zeros-front most_nodes _ (few_nodes c.requires.room))

pub deal-requires : goal.deal-requires
deal-requires c =
    let RoomOf : Room → List ℕ → Type 0 = λ r demands. RoomToDeal r demands c.args.parents.now c.args.left.now c.args.cords.now c.args.nodes.now c.args.lows.now c.args.wants.now c.args.caps.now c.args.scale in
    let room : Accepted c.requires.room.room = room_ok c.requires.room in
    let nodes_s : ℕ = length c.args.parents.now in
    let cords_s : ℕ = length c.args.nodes.now in
    let nodes_few : nodes_s ≤ most_nodes = few_nodes c.requires.room in
    let cords_few : cords_s ≤ most_cords = few_cords c.requires.room in
    let first_left_lent : Lent nodes_s (replicate most_nodes 0) c.copy.new.to = lent-zeros most_nodes nodes_few c.copy.auto.to in
    let order_lent : Lent cords_s (replicate most_cords 0) c.list_levels.new.order = lent-zeros most_cords cords_few c.list_levels.auto.order in
    let first_left_after : List ℕ = rejoined nodes_s (replicate most_nodes 0) c.copy.new.to in
    let first_left_is : take nodes_s first_left_after ≡ c.args.left.now = lent_again first_left_lent ∙ c.copy.ensures.copied ∙ sets_all _ _ (zeros-front most_nodes _ nodes_few ∙ sym c.requires.room.lists.lists.spare_size) in
    let order_after : List ℕ = rejoined cords_s (replicate most_cords 0) c.list_levels.new.order in
    let listed_at : LevelLists c.args.parents.now (nodes_in c.args.cords.now) (levels_in c.args.cords.now) c.list_levels.new.levels (take cords_s order_after) c.list_levels.new.actives = rw (lent_again order_lent) c.list_levels.ensures.listed in
    let first_lent : (r : Room) → Accepted r → (demands : List ℕ) → RoomOf r demands → DealGiven c.args.parents.now c.list_levels.new.levels (take cords_s order_after) c.list_levels.new.actives c.args.nodes.now c.args.lows.now c.args.wants.now (take nodes_s first_left_after) (limits_of r) (levels_of r) c.args.lows.now = λ r ok demands of. first_given ok of listed_at first_left_is in
    record { lists = (record { limits = limits_of c.requires.room.room; levels = levels_of c.requires.room.room; lows = c.args.lows.now; given = first_lent _ room _ c.requires.room.lists }, blank_marks nodes_few refl, c.requires.blank.1) }

pub slice_bounds-usable-end-2 : goal.slice_bounds-usable-end-2
slice_bounds-usable-end-2 c = lent_few (lent-zeros most_servers (few_servers c.requires.room) c.copy-2.auto.to)

pub slice_bounds-usable_of-end : goal.slice_bounds-usable_of-end
slice_bounds-usable_of-end c = lent-front (lent-zeros most_servers (few_servers c.requires.room) c.copy-2.auto.to)

pub usable_of-requires : goal.usable_of-requires
usable_of-requires c =
    let room : Accepted c.requires.room.room = room_ok c.requires.room in
    let cords_s : ℕ = length c.args.nodes.now in
    let servers_s : ℕ = length c.args.caps.now in
    let servers_few : servers_s ≤ most_servers = few_servers c.requires.room in
    let needs-lent : Lent servers_s (replicate most_servers 0) c.copy-2.new.to = lent-zeros most_servers servers_few c.copy-2.auto.to in
    let grants_size : length c.deal.new.grants ≡ cords_s = c.deal.auto.grants ∙ c.requires.blank.1 in
    let needs-after : List ℕ = rejoined servers_s (replicate most_servers 0) c.copy-2.new.to in
    let needs_are : take servers_s needs-after ≡ c.args.caps.now = lent_again needs-lent ∙ c.copy-2.ensures.copied ∙ sets_all _ _ (zeros-front most_servers _ servers_few) in
    record { lists = rw needs_are (server-lists room c.requires.room.lists grants_size) }

pub slice_bounds-used-end : goal.slice_bounds-used-end
slice_bounds-used-end c = blank-long (few_cords c.requires.room)

pub slice_bounds-reclaim-end-2 : goal.slice_bounds-reclaim-end-2
slice_bounds-reclaim-end-2 c = sym (zeros-front most_cords _ (few_cords c.requires.room))

pub slice_bounds-usable-end-3 : goal.slice_bounds-usable-end-3
slice_bounds-usable-end-3 c = lent_few (lent (lent_few (lent-zeros most_servers (few_servers c.requires.room) c.copy-2.auto.to)) c.usable_of.auto.usable)

pub slice_bounds-reclaim-end : goal.slice_bounds-reclaim-end
slice_bounds-reclaim-end c = lent-front (lent (lent_few (lent-zeros most_servers (few_servers c.requires.room) c.copy-2.auto.to)) c.usable_of.auto.usable)

pub reclaim-freed-requires : goal.reclaim-freed-requires
reclaim-freed-requires c =
    let RoomOf : Room → List ℕ → Type 0 = λ r demands. RoomToDeal r demands c.args.parents.now c.args.left.now c.args.cords.now c.args.nodes.now c.args.lows.now c.args.wants.now c.args.caps.now c.args.scale in
    let room : Accepted c.requires.room.room = room_ok c.requires.room in
    let nodes_s : ℕ = length c.args.parents.now in
    let cords_s : ℕ = length c.args.nodes.now in
    let servers_s : ℕ = length c.args.caps.now in
    let nodes_few : nodes_s ≤ most_nodes = few_nodes c.requires.room in
    let cords_few : cords_s ≤ most_cords = few_cords c.requires.room in
    let servers_few : servers_s ≤ most_servers = few_servers c.requires.room in
    let first_left_lent : Lent nodes_s (replicate most_nodes 0) c.copy.new.to = lent-zeros most_nodes nodes_few c.copy.auto.to in
    let needs-lent : Lent servers_s (replicate most_servers 0) c.copy-2.new.to = lent-zeros most_servers servers_few c.copy-2.auto.to in
    let order_lent : Lent cords_s (replicate most_cords 0) c.list_levels.new.order = lent-zeros most_cords cords_few c.list_levels.auto.order in
    let grants_size : length c.deal.new.grants ≡ cords_s = c.deal.auto.grants ∙ c.requires.blank.1 in
    let needs-after : List ℕ = rejoined servers_s (replicate most_servers 0) c.copy-2.new.to in
    let usable-lent : Lent servers_s needs-after c.usable_of.new.usable = lent (lent_few needs-lent) c.usable_of.auto.usable in
    let first_left_after : List ℕ = rejoined nodes_s (replicate most_nodes 0) c.copy.new.to in
    let first_left_is : take nodes_s first_left_after ≡ c.args.left.now = lent_again first_left_lent ∙ c.copy.ensures.copied ∙ sets_all _ _ (zeros-front most_nodes _ nodes_few ∙ sym c.requires.room.lists.lists.spare_size) in
    let needs_are : take servers_s needs-after ≡ c.args.caps.now = lent_again needs-lent ∙ c.copy-2.ensures.copied ∙ sets_all _ _ (zeros-front most_servers _ servers_few) in
    let order_after : List ℕ = rejoined cords_s (replicate most_cords 0) c.list_levels.new.order in
    let listed_at : LevelLists c.args.parents.now (nodes_in c.args.cords.now) (levels_in c.args.cords.now) c.list_levels.new.levels (take cords_s order_after) c.list_levels.new.actives = rw (lent_again order_lent) c.list_levels.ensures.listed in
    let first_lent : (r : Room) → Accepted r → (demands : List ℕ) → RoomOf r demands → DealGiven c.args.parents.now c.list_levels.new.levels (take cords_s order_after) c.list_levels.new.actives c.args.nodes.now c.args.lows.now c.args.wants.now (take nodes_s first_left_after) (limits_of r) (levels_of r) c.args.lows.now = λ r ok demands of. first_given ok of listed_at first_left_is in
    let first-grants : (r : Room) → Accepted r → (demands : List ℕ) → RoomOf r demands → c.deal.new.grants ≡ first_grants r demands = λ r ok demands of. first_made ok of (c.deal.ensures.dealt (limits_of r) (levels_of r) c.args.lows.now (first_lent _ ok _ of)) in
    let usable_after : List ℕ = rejoined servers_s needs-after c.usable_of.new.usable in
    let usable_is : take servers_s usable_after ≡ usable_from c.args.scale (shares_in c.args.cords.now) (servers_in c.args.cords.now) c.args.caps.now c.deal.new.grants = lent_again usable-lent
    ∙ c.usable_of.ensures.usable
    ∙ ap (λ (needed : List ℕ). usable_from c.args.scale (shares_in c.args.cords.now) (servers_in c.args.cords.now) needed c.deal.new.grants) needs_are in
    record { lists = (reclaim_asks room c.requires.room.lists (first-grants _ room _ c.requires.room.lists) usable_is grants_size, zeros-front most_cords _ cords_few ∙ sym (cord-count room c.requires.room.lists), wants_count room c.requires.room.lists ∙ sym (cord-count room c.requires.room.lists)) }

pub slice_bounds-used-end-2 : goal.slice_bounds-used-end-2
slice_bounds-used-end-2 c = lent_few (lent-zeros most_cords (few_cords c.requires.room) c.reclaim-freed.auto.starts)

pub slice_bounds-raise_starts-end : goal.slice_bounds-raise_starts-end
slice_bounds-raise_starts-end c = lent-front (lent-zeros most_cords (few_cords c.requires.room) c.reclaim-freed.auto.starts)

pub raise_starts-requires : goal.raise_starts-requires
raise_starts-requires c =
    let after = (goal.at.raise_starts-requires c).After-reclaim-freed in
    record { raisable = raisable (room after) c.requires.room.lists (starts_are after _ (room after) _ c.requires.room.lists) }

pub slice_bounds-order-end-3 : goal.slice_bounds-order-end-3
slice_bounds-order-end-3 c = lent_few (lent-zeros most_cords (few_cords c.requires.room) c.list_levels.auto.order)

pub slice_bounds-deal-end-4 : goal.slice_bounds-deal-end-4
slice_bounds-deal-end-4 c = lent-front (lent-zeros most_cords (few_cords c.requires.room) c.list_levels.auto.order)

pub slice_bounds-used-end-3 : goal.slice_bounds-used-end-3
slice_bounds-used-end-3 c = lent_few (lent-zeros most_cords (few_cords c.requires.room) c.reclaim-freed.auto.starts)

pub slice_bounds-deal-end-5 : goal.slice_bounds-deal-end-5
slice_bounds-deal-end-5 c = lent-front (lent-zeros most_cords (few_cords c.requires.room) c.reclaim-freed.auto.starts)

pub deal-requires-2 : goal.deal-requires-2
deal-requires-2 c =
    let after = (goal.at.deal-requires-2 c).After-reclaim-freed in
    record {
      lists = (
        record {
          limits = limits_of c.requires.room.room;
          levels = levels_of c.requires.room.room;
          lows = c.args.lows.now;
          given = second_lent after c.raise_starts.auto.left c.raise_starts.ensures.raised _ (room after) _ c.requires.room.lists;
        },
        c.requires.blank.0,
        c.deal.auto.grants ∙ c.requires.blank.1,
      );
    }

pub usable_of-requires-2 : goal.usable_of-requires-2
usable_of-requires-2 c =
    let room : Accepted c.requires.room.room = room_ok c.requires.room in
    let cords_s : ℕ = length c.args.nodes.now in
    let grants_size : length c.deal.new.grants ≡ cords_s = c.deal.auto.grants ∙ c.requires.blank.1 in
    let grants_size_d : length c.deal-2.new.grants ≡ cords_s = c.deal-2.auto.grants ∙ grants_size in
    record { lists = server-lists room c.requires.room.lists grants_size_d }

pub returns : goal.returns
returns c =
    let after = (goal.at.returns c).After-reclaim-freed in
    record {
      dealt =
          λ table demands r end is of.
          let ok : Accepted r = accepted table r end is in
          let second-deal : DealMade (second_deal r demands) c.deal-2.new.left c.deal-2.new.cuts c.deal-2.new.grants = second_made ok of (starts_are after _ ok _ of) (wants_are after _ ok _ of)
          (c.deal-2.ensures.dealt (limits_of r) (levels_of r) c.args.lows.now (second_lent after c.raise_starts.auto.left c.raise_starts.ensures.raised _ ok _ of)) in
          record {
            freed_is = freed_q after _ ok _ of;
            wants_are = wants_are after _ ok _ of;
            made = second-deal;
            caps_are = caps_are ok of (second_dealt ok of second-deal) c.usable_of-2.ensures.usable;
          };
    }
