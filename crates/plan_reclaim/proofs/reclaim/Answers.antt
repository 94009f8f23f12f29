-- `reclaim` meets its contract: before each turn the watts freed and the wants are those after the cords passed.
use mathlib.Core.Path.{refl, ◌∙◌}
use Prim.Native.Nat.{◌≤◌}
use native.Mathlib.Omega.{arith}
use Rattle.plan_reclaim.proofs.Reclaiming.{reclaiming_start, reclaiming_more, reclaiming_end}
use Rattle.plan_reclaim.proofs.reclaim.Goals as goal

pub loop-c-init : goal.loop-c-init
loop-c-init c = (omega arith, reclaiming_start)

pub loop-c-preserved : goal.loop-c-preserved
loop-c-preserved c =
    let stranded = c.from-stranded.ensures ∙ c.saturating_sub.ensures in
    let most : c.from-stranded.result ≤ 4294967295 = omega (arith, c.from-stranded.ensures, c.saturating_sub.type_inv) in (
      omega (arith, c.loop-c-test.true),
      reclaiming_more c.loop-c.invariant.1 (c.requires.lists.1, c.requires.lists.2) c.loop-c-test.true c.from-in-loop-c.ensures c.from.ensures c.carried_by-used.ensures.result stranded most refl c.next_want.ensures.result,
    )

pub returns : goal.returns
returns c =
    let all = reclaiming_end c.loop-c.invariant.1 (c.requires.lists.1, c.requires.lists.2) (omega (arith, c.loop-c.invariant.0, c.loop-c-test.false)) in
    record { freed = all.0; starts = all.1.0; wants = all.1.1 }
