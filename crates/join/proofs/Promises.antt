-- The promises of `join`, each proved under its name.
use mathlib.Core.Path.{◌≡◌, refl, sym, ap, ap₂, ◌∙◌, subst}
use mathlib.Core.List.{List, ◌++◌}
use Prim.Native.Nat.{ℕ, ◌+◌, ◌≤◌}
use native.Mathlib.Omega.{arith}
use lib.ListN.{length, length-append}
use borrow.Author.Tests.{ltb-false}
use Rattle.outcomes.specs.Outcome.{accepted, refused, unless}
use Rattle.outcomes.proofs.Outcomes.{unless-back, unless_is}
use Rattle.figures.specs.Figures.{at}
use Rattle.rooms.specs.Part.{good}
use Rattle.rooms.specs.Table.{Room}
use Rattle.rooms.specs.Limits.{checked}
use Rattle.rooms.specs.Words.{table_of}
use Rattle.rooms.proofs.Accepted.{Accepted}
use Rattle.rooms.proofs.Accepted as rooms
use Rattle.rooms.proofs.Whole.{checked_is}
use Rattle.rooms.proofs.Tables.{RoomFits, table_fits}
use Rattle.rooms.proofs.Reach.{next_is_length}
use Rattle.deals.specs.Plan.{Plan, first_too_large, plan_room, plan}
use Rattle.deals.specs.declared.Lengths.{Lengths}
use Rattle.deals.specs.declared.PlanRefusal.TheVariants.{DemandCount, DemandTooLarge}
use Rattle.deals.proofs.Plans.{plan_good_table, plan_room_accepted}
use Rattle.join.specs.Joined.{joined, joined_plan}
use Rattle.join.specs.Outcome.{reasons}
use Rattle.join.specs.Promises.{AcceptedJoin, JoinGivesRoom, Ample, JoinPlansBoth, FirstGrantsJoin}
use Rattle.join.specs.Huts.{hut_of, HutOf}
use Rattle.join.proofs.JoinedRoom.{servers-joined}
use Rattle.join.proofs.JoinedTable.{MayJoin, joined-checked}
use Rattle.join.proofs.JoinedPlans.{first_grants-joined, plan-joined}
use Rattle.join.proofs.HutLaws.{both_good}
use Rattle.join.proofs.Demands.{first_in_first, first_in_second, same_count, accepted_demands, too_large_back, too_large_told, count-told, ample_told}

module _ (j : AcceptedJoin) where
  abbrev f : List ℕ
  f = j.first

  abbrev s : List ℕ
  s = j.second

  abbrev r : Room
  r = j.one

  abbrev q : Room
  q = j.two

  abbrev whole : Room
  whole = joined r q

  -- No reason to refuse held.
  told : unless (reasons (at f 0) (at s 0) r q j.entries) (table_of (at f 0) whole) ≡ accepted j.table
  told =
      let a : HutOf f (hut_of f r) = record { room = r; end = j.one_end; good_table = j.is_one; is = refl } in
      let b : HutOf s (hut_of s q) = record { room = q; end = j.two_end; good_table = j.is_two; is = refl } in
      sym (both_good f s j.entries a b) ∙ j.is_table

  words : j.table ≡ table_of (at f 0) whole
  words = unless_is _ (table_of (at f 0) whole) j.table told

  ok : Accepted r
  ok = rooms.accepted f r j.one_end j.is_one

  ko : Accepted q
  ko = rooms.accepted s q j.two_end j.is_two

  fits_one : RoomFits (at f 0) r
  fits_one = table_fits f r j.one_end (checked_is f r j.one_end j.is_one).0

  versions : at f 0 ≡ at s 0
  versions = same_count _ _ (unless-back _ _ (table_of (at f 0) whole) told).0

  fits_two : RoomFits (at f 0) q
  fits_two = subst (λ (v : ℕ). RoomFits v q) (sym versions) (table_fits s q j.two_end (checked_is s q j.two_end j.is_two).0)

  may : MayJoin r q
  may =
      let after = unless-back _ _ (table_of (at f 0) whole) told in
      let nodes = unless-back _ _ (table_of (at f 0) whole) after.1 in
      let servers = unless-back _ _ (table_of (at f 0) whole) nodes.1 in
      let cords = unless-back _ _ (table_of (at f 0) whole) servers.1 in
      record {
        scale = fits_two.scaled ∙ sym fits_one.scaled;
        nodes = ltb-false _ _ nodes.0;
        servers = ltb-false _ _ servers.0;
        cords = ltb-false _ _ cords.0;
      }

  checks : checked j.table 0 ≡ good whole (length j.table)
  checks =
      let c = ap (λ (w : List ℕ). checked w 0) words ∙ joined-checked (at f 0) r q fits_one fits_two ok ko may in
      c ∙ ap (good whole) (next_is_length j.table whole _ c)

  both : Accepted whole
  both = rooms.accepted j.table whole _ checks

  plan_whole : (d : List ℕ) (lengths : Lengths) → plan j.table d lengths ≡ plan_room whole d lengths
  plan_whole d lengths = plan_good_table j.table d lengths whole _ checks

  plan_one : (d : List ℕ) (lengths : Lengths) → plan f d lengths ≡ plan_room r d lengths
  plan_one d lengths = plan_good_table f d lengths r _ j.is_one

  plan_two : (d : List ℕ) (lengths : Lengths) → plan s d lengths ≡ plan_room q d lengths
  plan_two d lengths = plan_good_table s d lengths q _ j.is_two

  counts : (d e : List ℕ) → length d ≡ length r.servers → length e ≡ length q.servers → length (d ++ e) ≡ length whole.servers
  counts d e c k = length-append d e ∙ ap₂ ◌+◌ c k ∙ sym (servers-joined r q)

  planned : (d e : List ℕ) (ours theirs lengths : Lengths) (p t : Plan) → plan f d ours ≡ accepted p → plan s e theirs ≡ accepted t → Ample whole lengths
      → plan j.table (d ++ e) lengths ≡ accepted (joined_plan (length r.nodes) p t)
  planned d e ours theirs lengths p t a b long =
      let one = sym (plan_one d ours) ∙ a in
      let two = sym (plan_two e theirs) ∙ b in
      let fit = accepted_demands r d ours one in
      let fit_two = accepted_demands q e theirs two in
      let none : length (d ++ e) ≤ first_too_large (d ++ e)
      = omega (arith, first_in_second _ d e fit.none, length-append d e, fit_two.none) in
      plan_whole (d ++ e) lengths
      ∙ ample_told whole (d ++ e) lengths (record { count = counts d e fit.count fit_two.count; none = none }) long
      ∙ ap accepted (plan-joined r q ok ko both may.scale d e fit.count
      ∙ sym (ap₂ (joined_plan (length r.nodes)) (plan_room_accepted r d ours p one).is (plan_room_accepted q e theirs t two).is))

  counted : (d : List ℕ) (lengths : Lengths) → (length d ≡ length r.servers + length q.servers → ⊥)
      → plan j.table d lengths ≡ refused (DemandCount (length r.servers + length q.servers))
  counted d lengths n =
      plan_whole d lengths ∙ count-told whole d lengths (λ e. n (e ∙ servers-joined r q)) ∙ ap (λ (k : ℕ). refused (DemandCount k)) (servers-joined r q)

  first_large : (d e : List ℕ) (ours lengths : Lengths) (i : ℕ) → plan f d ours ≡ refused (DemandTooLarge i) → length e ≡ length q.servers
      → plan j.table (d ++ e) lengths ≡ refused (DemandTooLarge i)
  first_large d e ours lengths i a k =
      let t = too_large_back r d ours (sym (plan_one d ours) ∙ a) in
      let same = first_in_first _ d e t.within in
      plan_whole (d ++ e) lengths
      ∙ too_large_told whole (d ++ e) lengths (record { count = counts d e t.count k; is = t.is ∙ sym same; within = omega (arith, same, t.within, length-append d e) })

  second_large : (d e : List ℕ) (ours theirs lengths : Lengths) (p : Plan) (i : ℕ) → plan f d ours ≡ accepted p → plan s e theirs ≡ refused (DemandTooLarge i)
      → plan j.table (d ++ e) lengths ≡ refused (DemandTooLarge (length r.servers + i))
  second_large d e ours theirs lengths p i a b =
      let fit = accepted_demands r d ours (sym (plan_one d ours) ∙ a) in
      let t = too_large_back q e theirs (sym (plan_two e theirs) ∙ b) in
      let same = first_in_second _ d e fit.none in
      plan_whole (d ++ e) lengths
      ∙ too_large_told whole (d ++ e) lengths (record {
        count = counts d e fit.count t.count;
        is = omega (arith, same, t.is, fit.count);
        within = omega (arith, same, t.within, length-append d e);
      })

-- ---- The promises

pub join_gives_room : JoinGivesRoom
join_gives_room j = record { words = words j; checks = checks j }

pub join_plans_both : JoinPlansBoth
join_plans_both j = record { planned = planned j; counted = counted j; first_too_large = first_large j; second_too_large = second_large j }

pub first_grants_join : FirstGrantsJoin
first_grants_join j d e count = first_grants-joined j.one j.two (ok j) (ko j) (both j) (may j).scale d e count
