-- What is printed is at most 83,995 bytes, whatever the sheet and the demands.
use mathlib.Core.Path.{◌≡◌, refl, ap, ◌∙◌}
use mathlib.Core.Bool.{Bool, true, false}
use mathlib.Core.List.{List}
use Prim.Native.Nat.{ℕ, ◌^◌, ◌≤◌, ◌<◌}
use native.Mathlib.Omega.{arith}
use borrow.Author.Tests.{ltb-true, ltb-false}
use lib.Dec.{ltb}
use lib.ListN.{length, take, get_or, get_or-eq_default}
use Rattle.figures.specs.Bounds.{AllBelow}
use Rattle.figures.specs.Figures.{at}
use Rattle.rooms.specs.Part.{Step, good, bad}
use Rattle.rooms.specs.Table.{Room, most_watts, room_cords, most_words}
use Rattle.rooms.specs.Limits.{checked}
use Rattle.rooms.specs.Outcome.{SheetOutcome, reading}
use Rattle.rooms.specs.Outcome as read
use Rattle.rooms.proofs.Accepted.{accepted}
use Rattle.deals.specs.SecondDeal.{second_deal, second_wants}
use Rattle.outcomes.specs.Outcome as outcomes
use Rattle.deals.specs.Plan.{Plan, PlanOutcome, most_lent, plan_room, plan_refusal_number, plan_refusal_place}
use Rattle.deals.specs.Promises.{AcceptedPlan}
use Rattle.deals.specs.declared.PlanList.TheVariants.{Grants, Caps, Headroom, Held}
use Rattle.figures.proofs.Lists.{figures-length}
use Rattle.deals.proofs.Plans.{plan_good_table}
use Rattle.deals.proofs.Promises.{answer_of_both_deals, second_kept, caps_in_range, headroom-within_ceilings, held_named, held_none, figures_fit, headroom_fits}
use Rattle.print.specs.Line.{Put}
use Rattle.print.proofs.Putting.{put_whole}
use Rattle.print.proofs.Size.{length-refused_line, length-print_of}
use Rattle.hutplan.specs.Printed.{most_text, table_text, room_text, step_text, sheet_text, read_text}

-- A list whose entries are numbers of 24 bits has words for entries.
words_below : (l : List ℕ) → ((i : ℕ) → i < length l → get_or l i 0 ≤ most_watts) → AllBelow (2 ^ 32) l
words_below l h i = go (ltb i (length l)) refl
  where
    go : (test : Bool) → ltb i (length l) ≡ test → get_or l i 0 < 2 ^ 32
    go true e = omega (arith, h i (ltb-true _ _ e))
    go false e = rw (get_or-eq_default l 0 (ltb-false i (length l) e)) (omega arith)

-- An accepted plan: all of its figures are such.
module _ (p : AcceptedPlan) where
  cap_words : AllBelow (2 ^ 32) p.answer.caps
  cap_words =
      let bounded = figures_fit p.table p.room p.end p.is_room p.demands in
      words_below p.answer.caps (λ v h.
      let there : v < length p.room.servers = omega (arith, (answer_of_both_deals p).counts Caps) in
      omega (arith, (caps_in_range p v there).1, bounded.needs v there))

  grant_words : AllBelow (2 ^ 32) p.answer.grants
  unfolding second_deal
  grant_words =
      let bounded = figures_fit p.table p.room p.end p.is_room p.demands in
      words_below p.answer.grants (λ c h.
      let there : c < room_cords p.room = omega (arith, (answer_of_both_deals p).counts Grants) in
      let most = bounded.second.wants c (rw (figures-length (room_cords p.room) _) there) in
      omega (arith, (second_kept p).most c there, most))

  headroom_words : AllBelow (2 ^ 32) p.answer.headroom
  unfolding second_deal
  headroom_words =
      let bounded = headroom_fits p.table p.room p.end p.is_room p.demands in
      words_below p.answer.headroom (λ c h.
      let there : c < room_cords p.room = omega (arith, (answer_of_both_deals p).counts Headroom) in
      let most = bounded.ceilings c (rw (figures-length (room_cords p.room) _) there) in
      omega (arith, headroom-within_ceilings p c there, most))

  -- (A node's number, or 0.)
  held_words : AllBelow (2 ^ 32) p.answer.held
  held_words =
      words_below p.answer.held (λ c h.
      let there : c < room_cords p.room = omega (arith, (answer_of_both_deals p).counts Held) in
      go c there (ltb (at p.answer.grants c) (at (second_wants p.room p.demands) c)) refl)
    where
      go : (c : ℕ) → c < room_cords p.room → (short : Bool) → ltb (at p.answer.grants c) (at (second_wants p.room p.demands) c) ≡ short
          → at p.answer.held c ≤ most_watts
      go c there true e =
          omega (arith, (held_named p c there (ltb-true _ _ e)).node.1, (accepted p.table p.room p.end p.is_room).few_nodes)
      go c there false e =
          let full : at p.answer.grants c ≡ at (second_wants p.room p.demands) c
          = omega (arith, (second_kept p).most c there, ltb-false (at p.answer.grants c) (at (second_wants p.room p.demands) c) e) in
          omega (arith, held_none p c there full)

  plan_fits : length (room_text p.room (outcomes.accepted p.answer)) ≤ most_text
  plan_fits =
      let freed = (figures_fit p.table p.room p.end p.is_room p.demands).freed in
      length-print_of p.room p.answer.freed p.answer.caps p.answer.grants p.answer.headroom p.answer.held
      (accepted p.table p.room p.end p.is_room) (omega (arith, ap (λ (x : Plan). x.freed) (answer_of_both_deals p).is, freed))
      cap_words grant_words headroom_words held_words

pub table_text_fits : (table demands : List ℕ) → length (table_text table demands) ≤ most_text
unfolding table_text
table_text_fits table demands = go (checked table 0) refl
  where
    room : (r : Room) (end : ℕ) → checked table 0 ≡ good r end → (o : PlanOutcome) → plan_room r demands most_lent ≡ o
        → length (room_text r o) ≤ most_text
    room r end q (outcomes.refused refusal) e =
        omega (arith, length-refused_line (plan_refusal_number refusal) (plan_refusal_place refusal))
    room r end q (outcomes.accepted answer) e =
        plan_fits
        (record {
          table = table;
          demands = demands;
          lengths = most_lent;
          room = r;
          end = end;
          answer = answer;
          is_room = q;
          is_answer = plan_good_table table demands most_lent r end q ∙ e;
        })

    go : (s : Step Room) → checked table 0 ≡ s → length (step_text s demands) ≤ most_text
    go (good r end) q = room r end q (plan_room r demands most_lent) refl
    go (bad refusal) q = omega (arith, length-refused_line (read.sheet_refusal_number refusal) (read.sheet_refusal_place refusal))

pub sheet_text_fits : (sheet demands : List ℕ) → length (sheet_text sheet demands) ≤ most_text
unfolding sheet_text
sheet_text_fits sheet demands = go (reading sheet most_words)
  where
    go : (o : SheetOutcome) → length (read_text o demands) ≤ most_text
    go (outcomes.accepted table) = table_text_fits table demands
    go (outcomes.refused refusal) = omega (arith, length-refused_line (read.sheet_refusal_number refusal) (read.sheet_refusal_place refusal))

-- So it stands whole in a buffer that is long enough.
pub whole : (sheet demands : List ℕ) {a b : List ℕ} {n : ℕ} → Put a 0 b n (sheet_text sheet demands) → most_text ≤ length a
    → take n b ≡ sheet_text sheet demands
whole sheet demands p h = put_whole p (omega (arith, sheet_text_fits sheet demands))
