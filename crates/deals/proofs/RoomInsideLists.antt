-- A room inside another, with the same demands: its headroom is the same there, and the nodes that hold its cords are, by their numbers there.
use mathlib.Core.Path.{◌≡◌, sym, ap, ◌∙◌}
use mathlib.Core.List.{List}
use Prim.Native.Nat.{ℕ, ◌+◌, ◌<◌, zero-le}
use native.Mathlib.Omega.{arith}
use lib.ListN.{length}
use Rattle.figures.specs.Figures.{figures, at}
use Rattle.figures.proofs.Lists.{figures-at}
use Rattle.rooms.specs.Table.{raised, Room, room_cords}
use Rattle.rooms.specs.Cords.{server_at}
use Rattle.rooms.proofs.Accepted.{Accepted}
use Rattle.deals.specs.Metrics.{Deal}
use Rattle.deals.specs.SecondDeal.{first_used, second_deal, second_wants}
use Rattle.deals.specs.Headroom.{ceilings_of, headroom_over, headroom}
use Rattle.deals.specs.Held.{held_over, held}
use Rattle.deals.proofs.RoomDeals.{room_deal, deal_of_is}
use Rattle.deals.proofs.BothDeals.{second_room_deal_dealable}
use Rattle.deals.proofs.Inside.{Inside}
use Rattle.deals.proofs.InsideLists.{headroom_in, held_in}
use Rattle.deals.proofs.RoomInside.{RoomInside, ServersIn, deal_inside, carried_by_in, first_used_in, second_wants_in}

module _ (r q : Room) (a b v : ℕ) (ins : RoomInside r q a b v) (ok : Accepted r) (ko : Accepted q) where
  ceilings_in : (c : ℕ) → c < room_cords r → at (ceilings_of q) (c + b) ≡ at (ceilings_of r) c
  unfolding ceilings_of
  ceilings_in c l =
      carried_by_in r q a b v ins ok ko 0 (figures (length q.servers) (λ u. (server_at q u).greatest)) (figures (length r.servers) (λ u. (server_at r u).greatest))
      (λ u lu k. figures-at (length q.servers) (u + v) _ (omega (arith, ins.servers_fit)) ∙ ins.greatest u lu ∙ sym (figures-at (length r.servers) u _ lu))
      c l zero-le

  module _ (d e : List ℕ) (same : ServersIn r q a b v ins ok ko 0 d e) where
    -- The second deal, by functions of place.
    second_inside : Inside (room_deal r (first_used r e) (second_wants r e)) (room_deal q (first_used q d) (second_wants q d)) a b 0
    second_inside =
        deal_inside r q a b v ins ok ko 0 (first_used q d) (second_wants q d) (first_used r e) (second_wants r e)
        (first_used_in r q a b v ins ok ko 0 d e same) (second_wants_in r q a b v ins ok ko 0 d e same)

    pub room_headroom_in : (c : ℕ) → c < room_cords r → at (headroom q d) (c + b) ≡ at (headroom r e) c
    unfolding headroom second_deal
    room_headroom_in c l =
        ap (λ (x : Deal). at (headroom_over x (at (ceilings_of q))) (c + b)) (deal_of_is q (first_used q d) (second_wants q d))
        ∙ headroom_in _ _ a b second_inside (second_room_deal_dealable r ok e) (second_room_deal_dealable q ko d) (at (ceilings_of q)) (at (ceilings_of r)) ceilings_in c l
        ∙ ap (λ (x : Deal). at (headroom_over x (at (ceilings_of r))) c) (sym (deal_of_is r (first_used r e) (second_wants r e)))

    pub room_held_in : (c : ℕ) → c < room_cords r → at (held q d) (c + b) ≡ raised a (at (held r e) c)
    unfolding held second_deal
    room_held_in c l =
        ap (λ (x : Deal). at (held_over x) (c + b)) (deal_of_is q (first_used q d) (second_wants q d))
        ∙ held_in _ _ a b second_inside (second_room_deal_dealable r ok e) (second_room_deal_dealable q ko d) c l
        ∙ ap (λ (x : Deal). raised a (at (held_over x) c)) (sym (deal_of_is r (first_used r e) (second_wants r e)))
