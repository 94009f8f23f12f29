-- `plan_bytes` meets its contract: just what the plan wrote is stored, and its answer is told.
use mathlib.Core.Path.{◌≡◌, refl, sym, ap, ◌∙◌}
use Prim.Native.Nat.{◌/◌, ◌≤◌}
use native.Mathlib.Omega.{arith}
use lib.ListN.{length}
use Rattle.outcomes.specs.Outcome.{written, after}
use Rattle.words.specs.Bytes.{words_of, bytes_of}
use Rattle.deals.specs.Plan.{PlanOutcome, output, entries, Lists, lists, plan, answer_of}
use Rattle.deals.specs.declared.PlanList.{PlanList}
use Rattle.deals.specs.declared.PlanList.TheVariants.{Grants, Caps, Headroom, Held}
use Rattle.deals.proofs.Plans.{each}
use Rattle.plan_bytes.specs.Call.{lent_bytes}
use Rattle.plan_bytes.specs.Figures.{freed_of}
use Rattle.plan_bytes.proofs.PlanLaws.{output-fitting, list_stored, nothing_stored, plan_short, plan_done}
use Rattle.plan_bytes.proofs.plan_bytes.Goals as goal
use Rattle.plan_bytes.proofs.plan_bytes.Goals.{in-Ok, in_default}

pub returns-then-answer-lt-ANSWER_BYTES : goal.returns-then-answer-lt-ANSWER_BYTES
returns-then-answer-lt-ANSWER_BYTES c = record { called = plan_short _ _ _ c.if-answer-lt-ANSWER_BYTES.true }

pub returns : goal.returns
returns c =
    let lent : Lists = lists c.args.grants.now c.args.caps.now c.args.headroom.now c.args.held.now in
    let outcome : PlanOutcome = plan (words_of c.args.table.now) (words_of c.args.demands.now) (lent_bytes lent) in
    let left = c.plan_figures-planned.ensures.planned in
    let lent' : Lists = lists c.match-planned.grants c.match-planned.caps c.match-planned.headroom c.match-planned.held in
    let entries_are : (list : PlanList) → entries (lent_bytes lent) list ≡ length (lent list) / 4 = each _ refl refl refl refl in
    let fits : (list : PlanList) → length (written (output list) outcome) ≤ length (lent list) / 4
    = λ list. omega (arith, output-fitting (words_of c.args.table.now) (words_of c.args.demands.now) (lent_bytes lent) list, entries_are list) in
    let stored : (list : PlanList) → lent' list ≡ after (λ p. bytes_of (output list p)) outcome (lent list) = elim c.match-planned.branch [
      | in-Ok w ↦
          let fronts = w.in-Ok.ensures.planned.lists_are in
          each _
          (w.grants-is ∙ list_stored (output Grants) outcome _ (fronts Grants) (fits Grants) w.store.ensures.stored)
          (w.caps-is ∙ list_stored (output Caps) outcome _ (fronts Caps) (fits Caps) w.store-in-Ok.ensures.stored)
          (w.headroom-is ∙ list_stored (output Headroom) outcome _ (fronts Headroom) (fits Headroom) w.store-in-Ok-2.ensures.stored)
          (w.held-is ∙ list_stored (output Held) outcome _ (fronts Held) (fits Held) w.store-in-Ok-3.ensures.stored)
      | in_default w ↦
          let unchanged = nothing_stored outcome lent w.in_default.field-0 (sym (ap freed_of w.in_default.is) ∙ left.answer_is) in
          each _ (w.grants-is ∙ unchanged Grants) (w.caps-is ∙ unchanged Caps) (w.headroom-is ∙ unchanged Headroom) (w.held-is ∙ unchanged Held)
    ] in
    let told : freed_of c.match-planned.planned ≡ answer_of outcome = elim c.match-planned.branch [
      | in-Ok w ↦ ap freed_of w.planned-is ∙ w.in-Ok.ensures.planned.answer_is
      | in_default w ↦ ap freed_of w.planned-is ∙ left.answer_is
    ] in
    record { called = plan_done outcome lent c.args.answer.now (omega (arith, c.if-answer-lt-ANSWER_BYTES.false)) c.match-planned.planned told stored c.tell.ensures.told }
