-- Equal plans of tables of two versions.
use mathlib.Core.Path.{◌≡◌, refl, sym, ap, ap₂, ◌∙◌, fun_ext}
use mathlib.Core.Bool.{Bool, true, false, cond, ◌&&◌}
use mathlib.Core.List.{List}
use Prim.Native.Nat.{ℕ, ◌*◌, ◌/◌, ◌<◌}
use native.Mathlib.Omega.{arith}
use lib.Dec.{eqb, ltb}
use lib.ListN.{length}
use Rattle.figures.specs.Figures.{figures, at, sum_of}
use Rattle.rooms.specs.Part.{good, follow, ensure}
use Rattle.rooms.specs.declared.SheetRefusal.TheVariants.{LowsAboveLimit}
use Rattle.rooms.specs.Table.{Server, Room, room_cords, table}
use Rattle.rooms.specs.Limits.{overloaded, checked}
use Rattle.rooms.specs.Cords.{RoomCord, cord_at, server_at}
use Rattle.rooms.specs.Lists.{parents_of, limits_of, carried_by, lows_of}
use Rattle.rooms.proofs.Versions.{second_version_reads, third_version_reads, scale_from, tenfold_room, figures-same, load_tenfold, some_tenfold, servers_tenfold, room_cords_tenfold, server_at_tenfold, cord_at_tenfold, overloaded_tenfold, nodes_of_tenfold, levels_of_tenfold, carried_by_tenfold, lows_of_tenfold}
use Rattle.deals.specs.Wants.{need, needs, first_wants}
use Rattle.deals.specs.Metrics.{Deal, deal_of}
use Rattle.deals.specs.Dealing.{granted}
use Rattle.deals.specs.SecondDeal.{least_over, loaded, load_of, usable, stranded, wants_after, first_deal, first_grants, first_usable, first_used, freed, second_deal, second_wants, second_grants, caps}
use Rattle.deals.specs.Headroom.{ceilings_of, headroom_over, headroom}
use Rattle.deals.specs.Held.{held_over, held}
use Rattle.outcomes.specs.Outcome.{unless}
use Rattle.deals.specs.Plan.{plan_of, reasons, plan_room, plan_step, plan}
use Rattle.deals.specs.declared.Lengths.{Lengths}
use Rattle.deals.specs.Promises.{EqualPlans, EightyThroughout, SharesTenfold}

-- Tables whose rooms name the same overloaded node, or none, and have the same plan whatever the demands and lists: they have equal plans.
-- (What a plan reads of a room is all that the rooms need to have in common.)
pub equal_plans : (w v : List ℕ) (r q : Room) (i j : ℕ) → table w 0 ≡ good r i → table v 0 ≡ good q j → overloaded r ≡ overloaded q
    → ((demands : List ℕ) (lengths : Lengths) → plan_room r demands lengths ≡ plan_room q demands lengths) → EqualPlans w v
unfolding plan checked follow ensure
equal_plans w v r q i j e d over same demands lengths = rw (e, d, over) (go (eqb (overloaded q) 0))
  where
    go : (t : Bool) → plan_step (follow (ensure t (LowsAboveLimit (overloaded q)) w i) (λ _ k. good r k)) demands lengths
        ≡ plan_step (follow (ensure t (LowsAboveLimit (overloaded q)) v j) (λ _ k. good q k)) demands lengths
    go true = same demands lengths
    go false = refl

pub eighty_throughout : EightyThroughout
eighty_throughout w first t =
    let second = second_version_reads w t.value t.next first t.is in
    equal_plans w _ t.value t.value t.next second.next t.is second.is refl (λ demands lengths. refl)

-- ---- A room with scale and shares tenfold has the same plans

module _ (r : Room) (some : 0 < r.scale) where
  abbrev finer : Room
  finer = tenfold_room r

  deal_tenfold : (starts wants : List ℕ) → deal_of finer starts wants ≡ deal_of r starts wants
  unfolding deal_of parents_of limits_of
  deal_tenfold starts wants =
      rw (nodes_of_tenfold r, levels_of_tenfold r, lows_of_tenfold r some)

  loaded_tenfold : (v c : ℕ) → loaded finer v c ≡ loaded r v c
  loaded_tenfold v c =
      ap (λ (x : RoomCord). eqb x.server v && ltb 0 x.share) (cord_at_tenfold r c)
      ∙ ap (λ (t : Bool). eqb (cord_at r c).server v && t) (some_tenfold (cord_at r c).share)

  load_of_tenfold : (grants : List ℕ) (c : ℕ) → load_of finer grants c ≡ load_of r grants c
  load_of_tenfold grants c =
      ap (λ (x : RoomCord). 10 * r.scale * at grants c / x.share) (cord_at_tenfold r c) ∙ load_tenfold r.scale (cord_at r c).share (at grants c)

  least_tenfold : (grants : List ℕ) (v start : ℕ)
      → least_over (room_cords finer) (loaded finer v) (load_of finer grants) start ≡ least_over (room_cords r) (loaded r v) (load_of r grants) start
  least_tenfold grants v start =
      ap (λ (k : ℕ). least_over k (loaded finer v) (load_of finer grants) start) (room_cords_tenfold r)
      ∙ ap₂ (λ (t : ℕ → Bool) (g : ℕ → ℕ). least_over (room_cords r) t g start) (fun_ext (loaded_tenfold v)) (fun_ext (load_of_tenfold grants))

  usable_tenfold : (need grants : List ℕ) → usable finer need grants ≡ usable r need grants
  unfolding usable
  usable_tenfold need grants = figures-same (servers_tenfold r) (λ v. least_tenfold grants v (at need v))

  stranded_tenfold : (grants used : List ℕ) → stranded finer grants used ≡ stranded r grants used
  unfolding stranded
  stranded_tenfold grants used = figures-same (room_cords_tenfold r) (λ c. refl)

  wants_after_tenfold : (wants grants used : List ℕ) → wants_after finer wants grants used ≡ wants_after r wants grants used
  unfolding wants_after
  wants_after_tenfold wants grants used =
      figures-same (room_cords_tenfold r) (λ c. ap (λ (l : List ℕ). cond (ltb 0 (at l c)) (at used c) (at wants c)) (stranded_tenfold grants used))

  module _ (demands : List ℕ) where
    needs_tenfold : needs finer demands ≡ needs r demands
    unfolding needs
    needs_tenfold = figures-same (servers_tenfold r) (λ v. ap (λ (s : Server). need s (at demands v)) (server_at_tenfold r v))

    first_wants_tenfold : first_wants finer demands ≡ first_wants r demands
    unfolding first_wants
    first_wants_tenfold = carried_by_tenfold r some (needs finer demands) ∙ ap (carried_by r) needs_tenfold

    first_grants_tenfold : first_grants finer demands ≡ first_grants r demands
    unfolding first_grants first_deal
    first_grants_tenfold =
        ap granted (deal_tenfold (lows_of finer) (first_wants finer demands) ∙ ap₂ (deal_of r) (lows_of_tenfold r some) first_wants_tenfold)

    first_usable_tenfold : first_usable finer demands ≡ first_usable r demands
    unfolding first_usable
    first_usable_tenfold =
        usable_tenfold (needs finer demands) (first_grants finer demands) ∙ ap₂ (usable r) needs_tenfold first_grants_tenfold

    first_used_tenfold : first_used finer demands ≡ first_used r demands
    unfolding first_used
    first_used_tenfold = carried_by_tenfold r some (first_usable finer demands) ∙ ap (carried_by r) first_usable_tenfold

    freed_tenfold : freed finer demands ≡ freed r demands
    unfolding freed
    freed_tenfold =
        ap sum_of (stranded_tenfold (first_grants finer demands) (first_used finer demands) ∙ ap₂ (stranded r) first_grants_tenfold first_used_tenfold)

    second_wants_tenfold : second_wants finer demands ≡ second_wants r demands
    unfolding second_wants
    second_wants_tenfold =
        wants_after_tenfold (first_wants finer demands) (first_grants finer demands) (first_used finer demands)
        ∙ (λ i. wants_after r (first_wants_tenfold i) (first_grants_tenfold i) (first_used_tenfold i))

    second_deal_tenfold : second_deal finer demands ≡ second_deal r demands
    unfolding second_deal
    second_deal_tenfold =
        deal_tenfold (first_used finer demands) (second_wants finer demands) ∙ ap₂ (deal_of r) first_used_tenfold second_wants_tenfold

    second_grants_tenfold : second_grants finer demands ≡ second_grants r demands
    unfolding second_grants
    second_grants_tenfold = ap granted second_deal_tenfold

    caps_tenfold : caps finer demands ≡ caps r demands
    unfolding caps
    caps_tenfold = usable_tenfold (needs finer demands) (second_grants finer demands) ∙ ap₂ (usable r) needs_tenfold second_grants_tenfold

    -- Headroom too: the ceilings are what cords carry of the greatest.
    headroom_tenfold : headroom finer demands ≡ headroom r demands
    unfolding headroom ceilings_of
    headroom_tenfold =
        ap₂ (λ (d : Deal) (l : List ℕ). headroom_over d (at l)) second_deal_tenfold
        (carried_by_tenfold r some (figures (length finer.servers) (λ v. (server_at finer v).greatest))
        ∙ ap (carried_by r) (figures-same (servers_tenfold r) (λ v. ap (λ (s : Server). s.greatest) (server_at_tenfold r v))))

    held_tenfold : held finer demands ≡ held r demands
    unfolding held
    held_tenfold = ap held_over second_deal_tenfold

    plan_of_tenfold : plan_of finer demands ≡ plan_of r demands
    plan_of_tenfold = λ i. record {
      freed = freed_tenfold i;
      grants = second_grants_tenfold i;
      caps = caps_tenfold i;
      headroom = headroom_tenfold i;
      held = held_tenfold i;
    }

    reasons_tenfold : (lengths : Lengths) → reasons finer demands lengths ≡ reasons r demands lengths
    reasons_tenfold lengths = rw (servers_tenfold r, room_cords_tenfold r)

    plan_tenfold : (lengths : Lengths) → plan_room finer demands lengths ≡ plan_room r demands lengths
    unfolding plan_room
    plan_tenfold lengths = ap₂ unless (reasons_tenfold lengths) plan_of_tenfold

pub shares-tenfold : SharesTenfold
shares-tenfold w second t =
    let r = t.value in
    let third = third_version_reads w r t.next second t.is in
    let some : 0 < r.scale = omega (arith, scale_from w r t.next second t.is) in
    equal_plans w _ r (tenfold_room r) t.next third.next t.is third.is (sym (overloaded_tenfold r some)) (λ demands lengths. sym (plan_tenfold r some demands lengths))
