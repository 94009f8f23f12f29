-- The nodes that hold the cords of a room whose table is accepted: what holds of those of every deal holds of the second.
use mathlib.Core.Path.{◌≡◌, subst}
use mathlib.Core.Bool.{true}
use mathlib.Core.List.{List}
use Prim.Native.Nat.{ℕ, suc, ◌-◌, ◌<◌}
use native.Mathlib.Omega.{arith}
use lib.ListN.{length}
use Rattle.figures.specs.Figures.{at}
use Rattle.rooms.specs.Table.{Room, room_cords}
use Rattle.rooms.specs.Limits.{limit, node_at}
use Rattle.rooms.specs.Cords.{cord_at, rank_of}
use Rattle.rooms.specs.Lists.{lows_of, levels_of}
use Rattle.rooms.proofs.Accepted.{Accepted}
use Rattle.deals.specs.Dealing.{granted}
use Rattle.deals.specs.SecondDeal.{second_deal, second_wants, second_grants}
use Rattle.deals.specs.Held.{held_over, held}
use Rattle.deals.specs.Ways.{cord_beneath, watts_beneath}
use Rattle.deals.specs.Promises.{HoldsDown}
use Rattle.deals.specs.Promises.{NearestCut}
use Rattle.deals.proofs.RoomDeals.{levels_of-at}
use Rattle.deals.proofs.BothDeals.{server_facts, cord_facts, second_starts, second_room_deal, second_room_deal_dealable, of_second_room_deal}
use Rattle.deals.proofs.Held.{holder_full, holder-lows, held_none, held_named, holder_nearest}
use Rattle.rooms.specs.Trees.{sum_beneath}

module _ (r : Room) (ok : Accepted r) (demands : List ℕ) where
  -- A cord of a lower rank is one of a lower level.
  lower_level : (h c : ℕ) → h < room_cords r → c < room_cords r → rank_of r h < rank_of r c → at (levels_of r) h < at (levels_of r) c
  lower_level h c lh lc less =
      omega (arith, levels_of-at r h lh, levels_of-at r c lc, (server_facts r ok (cord_at r h).server (cord_facts r ok h lh).0).rank_from)

  -- What is said of a node by its number, from the same by its place.
  by_number : (grants : List ℕ) (c n m : ℕ) → n ≡ suc m → m < length r.nodes → cord_beneath r m c ≡ true
      → watts_beneath r m (at grants) ≡ limit (node_at r m)
      → ((h : ℕ) → h < room_cords r → cord_beneath r m h ≡ true → rank_of r h < rank_of r c → at grants h ≡ at (lows_of r) h) → HoldsDown r grants c n
  by_number grants c n m e l above full lower =
      let q : m ≡ n - 1 = omega arith in
      record {
        node = (omega arith, omega arith);
        above = subst (λ (z : ℕ). cord_beneath r z c ≡ true) q above;
        full = subst (λ (z : ℕ). watts_beneath r z (at grants) ≡ limit (node_at r z)) q full;
        lower = subst (λ (z : ℕ). (h : ℕ) → h < room_cords r → cord_beneath r z h ≡ true → rank_of r h < rank_of r c → at grants h ≡ at (lows_of r) h) q lower;
      }

  pub room_held_named : (c : ℕ) → c < room_cords r → at (second_grants r demands) c < at (second_wants r demands) c
      → HoldsDown r (second_grants r demands) c (at (held r demands) c)
  unfolding second_grants held sum_beneath
  room_held_named c l =
      of_second_room_deal r ok demands (λ d. at (granted d) c < at (second_wants r demands) c → HoldsDown r (granted d) c (at (held_over d) c)) (λ short.
      let d = second_room_deal r ok demands in
      let dealable = second_room_deal_dealable r ok demands in
      let starts = second_starts r ok demands in
      let x = held_named d dealable starts c l short in
      let n = x.nearest in
      by_number (granted d) c (at (held_over d) c) x.place x.is n.place n.above
      (holder_full d dealable starts (at (levels_of r) c) x.place n.place n.holds n.clear)
      (λ h lh b less. holder-lows d dealable starts (at (levels_of r) c) x.place n.place n.holds n.clear h lh b (lower_level h c lh l less)))

  pub room_held_none : (c : ℕ) → c < room_cords r → at (second_grants r demands) c ≡ at (second_wants r demands) c → at (held r demands) c ≡ 0
  unfolding second_grants held
  room_held_none c l =
      of_second_room_deal r ok demands (λ d. at (granted d) c ≡ at (second_wants r demands) c → at (held_over d) c ≡ 0)
      (held_none (second_room_deal r ok demands) (second_room_deal_dealable r ok demands) (second_starts r ok demands) c l)

  pub room_held_nearest : (c : ℕ) → c < room_cords r → at (second_grants r demands) c < at (second_wants r demands) c
      → NearestCut (second_deal r demands) c (at (held r demands) c - 1)
  unfolding second_grants held
  room_held_nearest c l =
      of_second_room_deal r ok demands (λ d. at (granted d) c < at (second_wants r demands) c → NearestCut d c (at (held_over d) c - 1)) (λ short.
      let d = second_room_deal r ok demands in
      let dealable = second_room_deal_dealable r ok demands in
      let starts = second_starts r ok demands in
      let x = held_named d dealable starts c l short in
      let q : x.place ≡ at (held_over d) c - 1 = omega (arith, x.is) in
      subst (NearestCut d c) q (holder_nearest d dealable starts c x))
