-- The print of each outcome is the one that the definition gives.
use mathlib.Core.Path.{◌≡◌, refl, sym, ap, subst, ◌∙◌, fun_ext}
use mathlib.Core.List.{List}
use Prim.Native.Nat.{ℕ, ◌≤◌}
use native.Mathlib.Omega.{arith}
use lib.ListN.{length, take}
use lib.Seq.{sets, length-sets, take-length}
use Rattle.figures.proofs.Stores.{take-sets}
use Rattle.rooms.specs.Part.{Step, good, bad, Good}
use Rattle.rooms.specs.Table.{Room, most_words}
use Rattle.rooms.specs.Limits.{checked}
use Rattle.rooms.specs.Outcome.{SheetOutcome, reading, sheet_refusal_number, sheet_refusal_place}
use Rattle.rooms.specs.Outcome as read
use Rattle.rooms.specs.declared.SheetRefusal.{SheetRefusal}
use Rattle.std.proofs.Common.{Ok, Err}
use Rattle.rooms.proofs.Lent.{reading_fits}
use Rattle.outcomes.specs.Outcome.{after}
use Rattle.outcomes.specs.Outcome as outcomes
use Rattle.deals.specs.Plan.{Plan, PlanOutcome, output, Lists, lent, most_lent, plan, plan_room, plan_step, answer_of, plan_refusal_number, plan_refusal_place}
use Rattle.deals.specs.declared.Lengths.{Lengths}
use Rattle.deals.specs.declared.PlanList.{PlanList}
use Rattle.deals.specs.declared.PlanList.TheVariants.{Grants, Caps, Headroom, Held}
use Rattle.deals.specs.declared.PlanRefusal.{PlanRefusal}
use Rattle.deals.specs.declared.PlanRefusal.TheVariants.{Table}
use Rattle.deals.proofs.Plans.{plan_good_table, Fits}
use Rattle.deals.proofs.Lent.{plan-written}
use Rattle.print.specs.Line.{refused_line}
use Rattle.print.specs.Print.{print_of}
use Rattle.print.proofs.Room.{print_of-front}
use Rattle.hutplan.specs.Printed.{table_text, room_text, step_text, sheet_text, read_text}

-- What fits a list is no longer than it.
fitting : {written : List ℕ} {needed entries : ℕ} → Fits written needed entries → length written ≤ entries
fitting fits = omega (arith, fits.count, fits.within)

-- A good table, and the print of its room with these lists, which is the table's text.
pub record RoomText (table demands : List ℕ) (f : ℕ) (left : Lists) : Type 0 where
  pub good_table : Good (checked table 0)
  pub text : print_of f good_table.value.servers (left Caps) (left Grants) (left Headroom) (left Held) ≡ table_text table demands

-- Lists that take the plan of every room, and what Plan comes to with them.
module _ (table demands : List ℕ) (given : Lists) (most : lent given ≡ most_lent) where
  abbrev outcome : PlanOutcome
  outcome = plan table demands (lent given)

  -- A refused plan.
  pub table_refused : {q : PlanRefusal} → Err q ≡ answer_of outcome
      → table_text table demands ≡ refused_line (plan_refusal_number q) (plan_refusal_place q)
  unfolding table_text plan
  table_refused {q = q} e =
      go (checked table 0) (subst (λ (lengths : Lengths). Err q ≡ answer_of (plan table demands lengths)) most e)
    where
      room : (r : Room) (o : PlanOutcome) → Err q ≡ answer_of o
          → room_text r o ≡ refused_line (plan_refusal_number q) (plan_refusal_place q)
      room r (outcomes.accepted answer) e = absurd (cc)
      room r (outcomes.refused p) e = let same : q ≡ p = cc in rw same

      go : (s : Step Room) → Err q ≡ answer_of (plan_step s demands most_lent)
          → step_text s demands ≡ refused_line (plan_refusal_number q) (plan_refusal_place q)
      go (good r end) e = room r (plan_room r demands most_lent) e
      go (bad refusal) e = let same : q ≡ Table refusal = cc in rw same

  -- An accepted plan, whose figures stand at the front of the lists.
  pub table_accepted : (left : Lists) {f : ℕ} → Ok f ≡ answer_of outcome
      → ((list : PlanList) → left list ≡ after (output list) outcome (given list)) → RoomText table demands f left
  unfolding table_text
  table_accepted left {f = f} e stored = go outcome refl e stored
    where
      in_room : (answer : Plan) → outcome ≡ outcomes.accepted answer
          → RoomText table demands answer.freed (λ list. sets (given list) 0 (output list answer))
      in_room answer is =
          let w = plan-written table demands (lent given) is in
          let fits = w.planning.fits in
          let room : plan_room w.room demands most_lent ≡ outcomes.accepted answer =
          rw (← most) (sym (plan_good_table table demands (lent given) w.room w.end w.is_room) ∙ is) in
          record {
            good_table = record { value = w.room; next = w.end; is = w.is_room };
            text =
                print_of-front w.room answer.freed answer.caps answer.grants answer.headroom answer.held
                (given Caps) (given Grants) (given Headroom) (given Held)
                (fits Caps).count (fits Grants).count (fits Headroom).count (fits Held).count
                (fitting (fits Caps)) (fitting (fits Grants)) (fitting (fits Headroom)) (fitting (fits Held))
                ∙ sym (ap (λ (s : Step Room). step_text s demands) w.is_room ∙ ap (room_text w.room) room);
          }

      go : (o : PlanOutcome) → outcome ≡ o → Ok f ≡ answer_of o → ((list : PlanList) → left list ≡ after (output list) o (given list))
          → RoomText table demands f left
      go (outcomes.refused q) is e stored = absurd (cc)
      go (outcomes.accepted answer) is e stored =
          let same : f ≡ answer.freed = cc in
          rw (same, fun_ext stored) (in_room answer is)

-- ---- Read

-- A refused sheet.
pub sheet_refused : (sheet demands : List ℕ) (n : ℕ) {q : SheetRefusal} → n ≡ most_words
    → Err q ≡ read.answer_of (reading sheet n)
    → sheet_text sheet demands ≡ refused_line (sheet_refusal_number q) (sheet_refusal_place q)
unfolding sheet_text
sheet_refused sheet demands n {q} h e = go (reading sheet most_words) (rw h at e)
  where
    go : (o : SheetOutcome) → Err q ≡ read.answer_of o
        → read_text o demands ≡ refused_line (sheet_refusal_number q) (sheet_refusal_place q)
    go (outcomes.accepted words) e = absurd (cc)
    go (outcomes.refused p) e = let same : q ≡ p = cc in rw same

-- An accepted sheet: its words stand at the front of the list.
pub sheet_accepted : (sheet demands list list' : List ℕ) {count : ℕ} → length list ≡ most_words
    → Ok count ≡ read.answer_of (reading sheet (length list))
    → list' ≡ after (λ l. l) (reading sheet (length list)) list
    → (count ≤ length list') × (table_text (take count list') demands ≡ sheet_text sheet demands)
unfolding sheet_text
sheet_accepted sheet demands list list' {count} h e l = go (reading sheet most_words) refl (rw h at e) (rw h at l)
  where
    go : (o : SheetOutcome) → reading sheet most_words ≡ o → Ok count ≡ read.answer_of o → list' ≡ after (λ l. l) o list
        → (count ≤ length list') × (table_text (take count list') demands ≡ read_text o demands)
    go (outcomes.refused q) is e l = absurd (cc)
    go (outcomes.accepted words) is e l =
        let n : count ≡ length words = cc in
        let fits : length words ≤ length list = rw h (reading_fits sheet most_words is) in
        let size : length list' ≡ length list = ap length l ∙ length-sets list 0 words in
        (omega arith, rw (l, n, take-sets (length words) list words fits (omega arith), take-length words))
