-- `admit` meets its contract: the lists' lengths are checked in the order of the definition's reasons to refuse.
use mathlib.Core.Path.{◌≡◌}
use mathlib.Core.List.{List, ◌∷◌}
use Prim.Native.Nat.{ℕ, ◌<◌}
use Rattle.std.specs.Prelude.{Result}
use Rattle.std.specs.Result.{IsErrAnd}
use Rattle.std.proofs.lemmas.Result.{err_from_is_err_and}
use Rattle.outcomes.specs.Outcome.{too_short}
use Rattle.deals.specs.Plan.{PlanReason, list_reasons}
use Rattle.deals.specs.declared.PlanList.{PlanList}
use Rattle.deals.specs.declared.PlanRefusal.{PlanRefusal}
use Rattle.deals.specs.declared.PlanRefusal.TheVariants.{ListTooShort}
use Rattle.layout.specs.declared.room.Counts.{Counts}
use Rattle.plans.specs.Admission.{admitting, admission}
use Rattle.plans.proofs.PlanCall.{Left, loading-told, loading-passed, short_told, list_passed, all_passed}
use Rattle.plans.proofs.admit.Goals as goal
use Rattle.plans.proofs.admit.Goals.{In_ok-counts}

module _ (c : In_ok-counts) where
  -- After the loading all reasons are left.
  loaded : Left c.args.loaded c.args.lengths c.in_ok-counts.counts (list_reasons c.in_ok-counts.counts.cords c.in_ok-counts.counts.servers c.args.lengths)
  loaded = loading-passed c.args.loaded c.args.lengths c.in_ok-counts.was

  -- A list is too short, and that is returned.
  short : {list : PlanList} {entries needed : ℕ} {rest : List PlanReason} {r : Result Counts PlanRefusal} {q : PlanRefusal}
      → Left c.args.loaded c.args.lengths c.in_ok-counts.counts (too_short (ListTooShort list) entries needed ∷ rest)
      → IsErrAnd r (λ p. p ≡ q) → (entries < needed) × (q ≡ ListTooShort list needed) → r ≡ admission (admitting c.args.loaded c.args.lengths)
  short {r = r} left e s =
      let p = err_from_is_err_and r e in
      rw (p.1, p.2, s.1) (short_told c.args.loaded c.args.lengths left s.0)

pub returns-in_err-counts-clause-admitted : goal.returns-in_err-counts-clause-admitted
returns-in_err-counts-clause-admitted c =
    let p = err_from_is_err_and c.from_residual.result c.from_residual.ensures.1 in
    rw (p.1, p.2) (loading-told c.args.loaded c.args.lengths c.in_err-counts.was)

pub returns-in_err-enough-clause-admitted : goal.returns-in_err-enough-clause-admitted
returns-in_err-enough-clause-admitted c =
    let at = (goal.at.returns-in_err-enough-clause-admitted c).In_ok-counts in
    short at (loaded at) c.from_residual-in_err-enough.ensures.1 c.in_err-enough.ensures.short

pub returns-in_err-enough-2-clause-admitted : goal.returns-in_err-enough-2-clause-admitted
returns-in_err-enough-2-clause-admitted c =
    let at = (goal.at.returns-in_err-enough-2-clause-admitted c).In_ok-counts in
    let grants = list_passed _ _ (loaded at) c.in_ok-enough.ensures.long in
    short at grants c.from_residual-in_err-enough-2.ensures.1 c.in_err-enough-2.ensures.short

pub returns-in_err-enough-3-clause-admitted : goal.returns-in_err-enough-3-clause-admitted
returns-in_err-enough-3-clause-admitted c =
    let at = (goal.at.returns-in_err-enough-3-clause-admitted c).In_ok-counts in
    let grants = list_passed _ _ (loaded at) c.in_ok-enough.ensures.long in
    let caps = list_passed _ _ grants c.in_ok-enough-2.ensures.long in
    short at caps c.from_residual-in_err-enough-3.ensures.1 c.in_err-enough-3.ensures.short

pub returns-in_err-enough-4-clause-admitted : goal.returns-in_err-enough-4-clause-admitted
returns-in_err-enough-4-clause-admitted c =
    let at = (goal.at.returns-in_err-enough-4-clause-admitted c).In_ok-counts in
    let grants = list_passed _ _ (loaded at) c.in_ok-enough.ensures.long in
    let caps = list_passed _ _ grants c.in_ok-enough-2.ensures.long in
    let headroom = list_passed _ _ caps c.in_ok-enough-3.ensures.long in
    short at headroom c.from_residual-in_err-enough-4.ensures.1 c.in_err-enough-4.ensures.short

pub returns-clause-admitted : goal.returns-clause-admitted
returns-clause-admitted c =
    let grants = list_passed _ _ (loaded (goal.at.returns-clause-admitted c).In_ok-counts) c.in_ok-enough.ensures.long in
    let caps = list_passed _ _ grants c.in_ok-enough-2.ensures.long in
    let headroom = list_passed _ _ caps c.in_ok-enough-3.ensures.long in
    all_passed _ _ (list_passed _ _ headroom c.in_ok-enough-4.ensures.long)
