-- The promises and the other properties, each proved under its name.
use mathlib.Core.Path.{◌≡◌, refl, sym, ap, ◌∙◌, subst}
use mathlib.Core.Bool.{Bool, true, false}
use mathlib.Core.List.{List}
use Prim.Native.Nat.{ℕ, ◌+◌, ◌-◌, ◌≤◌, ◌<◌, min}
use native.Mathlib.Nat.{le_trans, le_of_eq}
use native.Mathlib.Omega.{arith}
use lib.Dec.{leb}
use lib.ListN.{length}
use borrow.Author.Tests.{leb-true, leb-false, le-leb, lt-leb}
use Rattle.rooms.specs.Part.{good}
use Rattle.figures.specs.Sums.{on}
use Rattle.rooms.specs.Table.{Room, highest_rank, room_cords}
use Rattle.rooms.specs.Limits.{limit, node_at, parent_of, checked}
use Rattle.rooms.proofs.Accepted.{Accepted, accepted}
use Rattle.figures.proofs.Sums.{sum_cong}
use Rattle.figures.specs.Figures.{at}
use Rattle.rooms.specs.Cords.{cord_at, server_at, rank_of}
use Rattle.rooms.specs.Lists.{carried_by, lows_of}
use Rattle.deals.specs.Metrics.{Deal, deal_from, deal_of}
use Rattle.deals.specs.Dealing.{granted}
use Rattle.deals.specs.Wants.{needs}
use Rattle.deals.specs.SecondDeal.{first_deal, first_grants, first_usable, first_used, second_deal, second_wants, second_grants, caps}
use Rattle.deals.specs.Plan.{Plan, plan_of, output}
use Rattle.deals.specs.declared.PlanList.TheVariants.{Grants, Caps}
use Rattle.deals.specs.Headroom.{ceilings_of, root_headroom}
use Rattle.deals.specs.Ways.{Root, cord_beneath, watts_beneath, from_rank}
use Rattle.deals.specs.Promises.{AcceptedPlan, AcceptedHasRoom, Answered, AnswerOfBothDeals, FirstByExcess, SecondPassesFirst, CapsInRange, UsableInRange, UsedGranted, NearestCut, HeldNearest, Kept, FirstKept, SecondKept, Greatest, FirstGreatest, SecondGreatest, SettledFromRank, RefusalNine, CapsKeepUsable, GrantsKeepUsed, HeadroomWithinLimits, HeadroomWithinCeilings, HeadroomAllLent, HoldsDown, HeldNamed, HeldNone}
use Rattle.deals.specs.Properties.{SecondWantsInRange, FirstGivesAll, SecondGivesAll, from_level, Totals, StartsLeft, FiguresFit, HeadroomFits}
use Rattle.deals.proofs.Requests.{WholeWay}
use Rattle.deals.proofs.Computed.{Startable, granted_most, deal_gives_all}
use Rattle.deals.proofs.Passed.{passed_first, dealt_by_excess}
use Rattle.deals.proofs.Totals.{deal_totals}
use Rattle.deals.proofs.RoomDeals.{levels_of-at, room_deal, deal_of_is}
use Rattle.deals.proofs.BothDeals.{server_facts, cord_facts, room_dealable, grants_way, first_dealable, first_starts, first_startable, second_dealable, second_starts, second_startable, first_wants-lows, second_wants-lows, first_used-granted, second_grants_used, caps_used_granted, second_wants_wants, caps-least, caps-usable, caps-need, usable-least, usable-need, need_ge}
use Rattle.deals.proofs.StartsFit.{first_fit, second_fit}
use Rattle.deals.proofs.LowerRanks.{first_grants-same, first_usable-same, second_grants-same, caps-same}
use Rattle.deals.proofs.Bounds.{bounded}
use Rattle.deals.proofs.RoomHeadroom.{headroom_limits, headroom_ceilings, headroom-lent, headroom-figures}
use Rattle.deals.proofs.RoomHeld.{room_held_named, room_held_none, room_held_nearest}
use Rattle.deals.proofs.Plans.{plan_nine, plan_good, plan_good_table, Planning, plan_room_accepted}
use Rattle.rooms.specs.Trees.{sum_beneath}

-- The levels from that of a rank on are the ranks from it on.
rank_level : (rank own : ℕ) → 1 ≤ own → own ≤ highest_rank → leb rank own ≡ leb (min (rank - 1) highest_rank) (own - 1)
rank_level rank own h q = go (leb (min (rank - 1) highest_rank) (own - 1)) refl
  where
    go : (t : Bool) → leb (min (rank - 1) highest_rank) (own - 1) ≡ t → leb rank own ≡ t
    go true e =
        let a : min (rank - 1) highest_rank ≤ own - 1 = leb-true (min (rank - 1) highest_rank) (own - 1) e in
        le-leb rank own (omega arith)
    go false e =
        let a : own - 1 < min (rank - 1) highest_rank = leb-false (min (rank - 1) highest_rank) (own - 1) e in
        lt-leb rank own (omega arith)

module _ (r : Room) (ok : Accepted r) (starts wants : List ℕ) (lows : (c : ℕ) → c < room_cords r → at (lows_of r) c ≤ at wants c)
    (st : Startable (room_deal r starts wants)) where
  -- The deal by functions of place, and its grants.
  abbrev deal : Deal
  deal = room_deal r starts wants

  abbrev grants : List ℕ
  grants = granted (deal_of r starts wants)

  -- A deal by wants at or above the lows, from starts that its Requests have room for, keeps the lows, the wants and the limits.
  pub kept : Kept r wants grants
  unfolding sum_beneath
  kept =
      let w : WholeWay deal (at grants) = grants_way r ok starts wants lows st in
      record { least = w.least; most = w.most; within = w.within }

  -- The cords of a rank and above, by their levels.
  pub from_rank_level : (n rank : ℕ) (watts : List ℕ)
      → watts_beneath r n (from_rank r rank watts)
      ≡ sum_beneath (length r.nodes) (parent_of r) (room_cords r) (λ c. (cord_at r c).node) n (from_level deal (min (rank - 1) highest_rank) (at watts))
  unfolding sum_beneath
  from_rank_level n rank watts = sum_cong (room_cords r) _ _ (λ c l.
      let s = server_facts r ok (cord_at r c).server (cord_facts r ok c l).0 in
      ap (λ (t : Bool). on (cord_beneath r n c) (on t (at watts c)))
      (rank_level rank (rank_of r c) s.rank_from s.rank_to ∙ ap (leb (min (rank - 1) highest_rank)) (sym (levels_of-at r c l))))

  pub greatest : Greatest r wants grants
  unfolding sum_beneath
  greatest root top rank watts way =
      le_trans (le_of_eq (from_rank_level root rank watts))
      (le_trans
      (granted_most deal (room_dealable r ok starts wants lows) st (at watts) root
      (record { least = way.least; most = way.most; within = way.within })
      top.node top.top (min (rank - 1) highest_rank) (omega arith))
      (le_of_eq
      (ap (λ (d : Deal). sum_beneath (length r.nodes) (parent_of r) (room_cords r) (λ c. (cord_at r c).node) root (from_level deal (min (rank - 1) highest_rank) (at (granted d))))
      (sym (deal_of_is r starts wants))
      ∙ sym (from_rank_level root rank grants))))

-- ---- An accepted plan

module _ (p : AcceptedPlan) where
  accepted_room : Accepted p.room
  accepted_room = accepted p.table p.room p.end p.is_room

  planning : Planning p.room p.demands p.lengths p.answer
  planning =
      plan_room_accepted p.room p.demands p.lengths p.answer
      (sym (plan_good_table p.table p.demands p.lengths p.room p.end p.is_room) ∙ p.is_answer)

  answered : Answered p
  answered = record { is = planning.is; counts = λ list. (planning.fits list).count }

  -- What holds of the plan of every accepted room holds of the answer.
  of_plan : (P : Room → List ℕ → Plan → Type 0) → ((r : Room) → Accepted r → (demands : List ℕ) → P r demands (plan_of r demands))
      → P p.room p.demands p.answer
  of_plan P h = subst (P p.room p.demands) (sym planning.is) (h p.room accepted_room p.demands)

pub accepted_has_room : AcceptedHasRoom
accepted_has_room = plan_good

pub answer_of_both_deals : AnswerOfBothDeals
answer_of_both_deals = answered

-- ---- Document 01, "Dealing"

pub first_by_excess : FirstByExcess
unfolding first_deal deal_of deal_from
first_by_excess p =
    let ok = accepted_room p in
    dealt_by_excess _ refl (passed_first _ (first_dealable p.room ok p.demands) (first_startable p.room ok p.demands))

-- ---- Demand 3

pub first_kept : FirstKept
unfolding first_grants first_deal
first_kept p =
    let ok = accepted_room p in
    kept p.room ok (lows_of p.room) _ (first_wants-lows p.room ok p.demands) (first_starts p.room ok p.demands)

pub second_kept : SecondKept
unfolding second_grants second_deal
second_kept p =
    of_plan p (λ r demands plan. Kept r (second_wants r demands) plan.grants) (λ r ok demands. kept r ok (first_used r demands) _ (second_wants-lows r ok demands) (second_starts r ok demands))

pub first_greatest : FirstGreatest
unfolding first_grants first_deal
first_greatest p =
    let ok = accepted_room p in
    greatest p.room ok (lows_of p.room) _ (first_wants-lows p.room ok p.demands) (first_starts p.room ok p.demands)

pub second_greatest : SecondGreatest
unfolding second_grants second_deal
second_greatest p =
    of_plan p (λ r demands plan. Greatest r (second_wants r demands) plan.grants) (λ r ok demands. greatest r ok (first_used r demands) _ (second_wants-lows r ok demands) (second_starts r ok demands))

-- One table has one room.
same_room : (w v : List ℕ) (r s : Room) (i j : ℕ) → checked w 0 ≡ good r i → checked v 0 ≡ good s j → w ≡ v → s ≡ r
same_room w v r s i j e d q = let h : good r i ≡ good s j = sym e ∙ ap (λ (z : List ℕ). checked z 0) q ∙ d in cc

pub settled_from_rank : SettledFromRank
settled_from_rank rank p q one same =
    let e = same_room p.table q.table p.room q.room p.end q.end p.is_room q.is_room one in
    let alike : (figures : Room → List ℕ → List ℕ) (l : List ℕ) → l ≡ figures q.room q.demands → figures p.room q.demands ≡ l
    = λ figures l d. sym (d ∙ ap (λ (r : Room). figures r q.demands) e) in
    record {
      first = λ c l k. first_grants-same p.room (accepted_room p) rank p.demands q.demands same c l k
          ∙ ap (λ (z : List ℕ). at z c) (alike first_grants _ refl);
      usable = λ v l k. first_usable-same p.room (accepted_room p) rank p.demands q.demands same v l k
          ∙ ap (λ (z : List ℕ). at z v) (alike first_usable _ refl);
      second = λ c l k. ap (λ (z : List ℕ). at z c) (ap (output Grants) (answered p).is)
          ∙ second_grants-same p.room (accepted_room p) rank p.demands q.demands same c l k
          ∙ ap (λ (z : List ℕ). at z c) (alike second_grants _ (ap (output Grants) (answered q).is));
      caps = λ v l k. ap (λ (z : List ℕ). at z v) (ap (output Caps) (answered p).is)
          ∙ caps-same p.room (accepted_room p) rank p.demands q.demands same v l k
          ∙ ap (λ (z : List ℕ). at z v) (alike caps _ (ap (output Caps) (answered q).is));
    }

pub refusal_nine : RefusalNine
refusal_nine = plan_nine

-- ---- A.1

pub headroom-within_limits : HeadroomWithinLimits
headroom-within_limits p =
    of_plan p (λ r demands plan.
    (n : ℕ) → n < length r.nodes → watts_beneath r n (λ c. at plan.grants c + at plan.headroom c) ≤ limit (node_at r n)) headroom_limits

pub headroom-within_ceilings : HeadroomWithinCeilings
headroom-within_ceilings p =
    of_plan p (λ r demands plan. (c : ℕ) → c < room_cords r → at plan.grants c + at plan.headroom c ≤ at (ceilings_of r) c) headroom_ceilings

pub headroom_all_lent : HeadroomAllLent
headroom_all_lent p =
    of_plan p (λ r demands plan. (root : ℕ) → Root r root → watts_beneath r root (at plan.headroom) ≡ root_headroom r demands root) headroom-lent

-- ---- A.2

pub second_passes_first : SecondPassesFirst
second_passes_first p = passed_first _ (second_dealable p.room (accepted_room p) p.demands) (second_startable p.room (accepted_room p) p.demands)

pub caps_keep_usable : CapsKeepUsable
caps_keep_usable p =
    of_plan p (λ r demands plan. (v : ℕ) → v < length r.servers → at (first_usable r demands) v ≤ at plan.caps v) caps-usable

pub grants_keep_used : GrantsKeepUsed
grants_keep_used p =
    of_plan p (λ r demands plan. (c : ℕ) → c < room_cords r → at (first_used r demands) c ≤ at plan.grants c) second_grants_used

-- ---- A.5

pub held_named : HeldNamed
held_named p =
    of_plan p (λ r demands plan.
    (c : ℕ) → c < room_cords r → at plan.grants c < at (second_wants r demands) c → HoldsDown r plan.grants c (at plan.held c)) room_held_named

pub held_none : HeldNone
held_none p =
    of_plan p (λ r demands plan.
    (c : ℕ) → c < room_cords r → at plan.grants c ≡ at (second_wants r demands) c → at plan.held c ≡ 0) room_held_none

pub held_nearest : HeldNearest
held_nearest p =
    of_plan p (λ r demands plan.
    (c : ℕ) → c < room_cords r → at plan.grants c < at (second_wants r demands) c → NearestCut (second_deal r demands) c (at plan.held c - 1))
    room_held_nearest

-- ---- A.11 (the equal plans of A.3 and A.11: Versions.antt; the verdicts of A.9: Judged.antt)

pub used_granted : UsedGranted
used_granted p =
    of_plan p (λ r demands plan.
    (c : ℕ) → c < room_cords r
    → (at (first_used r demands) c ≤ at (first_grants r demands) c) × (at (carried_by r plan.caps) c ≤ at plan.grants c))
    (λ r ok demands c l. (first_used-granted r ok demands c l, caps_used_granted r ok demands c l))

pub usable_in_range : UsableInRange
unfolding first_usable
usable_in_range p v l =
    let r = p.room in
    let ok = accepted_room p in (
      usable-least r ok (needs r p.demands) (first_grants r p.demands) (need_ge r ok p.demands) (first_kept p).least v l,
      usable-need r ok (needs r p.demands) (first_grants r p.demands) v l,
    )

pub caps_in_range : CapsInRange
caps_in_range p =
    of_plan p (λ r demands plan.
    (v : ℕ) → v < length r.servers → ((server_at r v).least ≤ at plan.caps v) × (at plan.caps v ≤ at (needs r demands) v))
    (λ r ok demands v l. (caps-least r ok demands v l, caps-need r ok demands v l))

-- ---- What else is proved of every plan

pub second_wants_in_range : SecondWantsInRange
second_wants_in_range p c l =
    (second_wants-lows p.room (accepted_room p) p.demands c l, second_wants_wants p.room (accepted_room p) p.demands c l)

pub first_gives_all : FirstGivesAll
first_gives_all p = deal_gives_all _ (first_dealable p.room (accepted_room p) p.demands) (first_startable p.room (accepted_room p) p.demands)

pub second_gives_all : SecondGivesAll
second_gives_all p = deal_gives_all _ (second_dealable p.room (accepted_room p) p.demands) (second_startable p.room (accepted_room p) p.demands)

pub totals : Totals
totals table r end e demands =
    let ok = accepted table r end e in
    (deal_totals _ (first_dealable r ok demands), deal_totals _ (second_dealable r ok demands))

pub starts_left : StartsLeft
starts_left table r end e demands =
    let ok = accepted table r end e in
    (first_fit r ok demands, second_fit r ok demands)

pub figures_fit : FiguresFit
figures_fit table r end e demands = bounded r (accepted table r end e) demands

pub headroom_fits : HeadroomFits
headroom_fits table r end e demands = headroom-figures r (accepted table r end e) demands
