-- The headroom of a room whose table is accepted: no second want is above its cord's ceiling, so that what holds of headroom over every
-- such deal holds of the room's.
use mathlib.Core.Path.{◌≡◌, refl, sym}
use mathlib.Core.List.{List, [], ◌∷◌}
use Prim.Native.Nat.{ℕ, ◌+◌, ◌-◌, ◌≤◌, ◌<◌}
use native.Mathlib.Nat.{le_trans, le_of_eq}
use lib.ListN.{length}
use Rattle.figures.specs.Figures.{figures, at}
use Rattle.figures.proofs.Lists.{figures-at}
use Rattle.rooms.specs.Table.{Room, most_watts, room_cords}
use Rattle.rooms.specs.Limits.{limit, node_at}
use Rattle.rooms.specs.Cords.{cord_at, server_at}
use Rattle.rooms.proofs.Accepted.{Accepted}
use Rattle.rooms.proofs.Carried.{carried_most}
use Rattle.deals.specs.Metrics.{metrics}
use Rattle.deals.specs.Dealing.{granted}
use Rattle.deals.specs.Wants.{needs, first_wants}
use Rattle.deals.specs.SecondDeal.{second_deal, second_wants, second_grants}
use Rattle.deals.specs.Headroom.{ceilings_of, node_ceiling, requests_at, headroom_over, headroom, root_headroom}
use Rattle.deals.specs.Ways.{Root, watts_beneath}
use Rattle.deals.specs.Properties.{HeadroomBounded}
use Rattle.deals.proofs.BothDeals.{server_facts, cord_facts, carried_by-at, carried_by-length, carried_by_mono, need_le, second_wants_wants, second_starts, second_room_deal, second_room_deal_dealable, of_second_room_deal}
use Rattle.deals.proofs.Bounds.{limit_most}
use Rattle.deals.proofs.Headroom.{root_lends, within-limit, within_ceiling, headroom_bounded}
use Rattle.rooms.specs.Trees.{sum_beneath}

-- ---- Worked by hand

-- Two roots, of 50 W and 20 W, and a server of up to 100 W with half of its load on each.
abbrev room_f : Room
room_f = record {
  scale = 1000;
  nodes = record { parent = 0; rating = 50; percent = 100 } ∷ record { parent = 0; rating = 20; percent = 100 } ∷ [];
  servers =
      record { rank = 1; least = 0; greatest = 100; cords = record { node = 1; share = 500 } ∷ record { node = 2; share = 500 } ∷ [] } ∷ [];
}

-- With demand 100 the second root holds it to 40 W, so that the first cord's want falls from 50 W to 20, and its root has 30 to lend; by
-- the first deal's Requests it would have none.
by_hand : headroom room_f (100 ∷ []) ≡ 30 ∷ 0 ∷ []
unfolding headroom
by_hand = refl

-- ---- Every room

module _ (r : Room) (ok : Accepted r) (demands : List ℕ) where
  -- The greatests of the servers: what the ceilings are carried of.
  abbrev greatests : List ℕ
  greatests = figures (length r.servers) (λ v. (server_at r v).greatest)

  greatests_at : (v : ℕ) → v < length r.servers → at greatests v ≡ (server_at r v).greatest
  greatests_at v l = figures-at (length r.servers) v _ l

  pub ceilings_count : length (ceilings_of r) ≡ room_cords r
  unfolding ceilings_of
  ceilings_count = carried_by-length r greatests

  pub ceilings_most : (c : ℕ) → c < room_cords r → at (ceilings_of r) c ≤ most_watts
  unfolding ceilings_of
  ceilings_most c l =
      let v = (cord_facts r ok c l).0 in
      le_trans (le_of_eq (carried_by-at r greatests c l))
      (le_trans (carried_most r.scale (cord_at r c).share (at greatests (cord_at r c).server) ok.scaled.0 (cord_facts r ok c l).3)
      (le_trans (le_of_eq (greatests_at (cord_at r c).server v)) (server_facts r ok (cord_at r c).server v).greatest_to))

  pub wants_ceilings : (c : ℕ) → c < room_cords r → at (second_wants r demands) c ≤ at (ceilings_of r) c
  unfolding first_wants ceilings_of
  wants_ceilings c l =
      le_trans (second_wants_wants r ok demands c l)
      (carried_by_mono r ok (needs r demands) greatests (λ v lv. le_trans (need_le r ok demands v lv) (le_of_eq (sym (greatests_at v lv)))) c l)

  pub headroom_limits : (n : ℕ) → n < length r.nodes
      → watts_beneath r n (λ c. at (second_grants r demands) c + at (headroom r demands) c) ≤ limit (node_at r n)
  unfolding sum_beneath second_grants headroom
  headroom_limits n l =
      of_second_room_deal r ok demands (λ d. watts_beneath r n (λ c. at (granted d) c + at (headroom_over d (at (ceilings_of r))) c) ≤ limit (node_at r n))
      (within-limit (second_room_deal r ok demands) (second_room_deal_dealable r ok demands) (at (ceilings_of r)) wants_ceilings (second_starts r ok demands) n l)

  pub headroom_ceilings : (c : ℕ) → c < room_cords r → at (second_grants r demands) c + at (headroom r demands) c ≤ at (ceilings_of r) c
  unfolding second_grants headroom
  headroom_ceilings c l =
      of_second_room_deal r ok demands (λ d. at (granted d) c + at (headroom_over d (at (ceilings_of r))) c ≤ at (ceilings_of r) c)
      (within_ceiling (second_room_deal r ok demands) (second_room_deal_dealable r ok demands) (at (ceilings_of r)) wants_ceilings (second_starts r ok demands) c l)

  pub headroom-lent : (root : ℕ) → Root r root → watts_beneath r root (at (headroom r demands)) ≡ root_headroom r demands root
  unfolding sum_beneath headroom root_headroom
  headroom-lent root top =
      of_second_room_deal r ok demands (λ d. watts_beneath r root (at (headroom_over d (at (ceilings_of r)))) ≡ node_ceiling d (at (ceilings_of r)) root - requests_at (metrics d) root)
      (root_lends (second_room_deal r ok demands) (second_room_deal_dealable r ok demands) (at (ceilings_of r)) wants_ceilings root top.node top.top)

  pub headroom-figures : HeadroomBounded (second_deal r demands) (at (ceilings_of r))
  headroom-figures =
      of_second_room_deal r ok demands (λ d. HeadroomBounded d (at (ceilings_of r)))
      (headroom_bounded (second_room_deal r ok demands) (second_room_deal_dealable r ok demands) (at (ceilings_of r)) wants_ceilings ok.few_cords (limit_most r ok demands) ceilings_most)
