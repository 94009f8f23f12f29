-- `credit_rises` meets its contract: before each turn what the cords passed rise by stands on their nodes.
use mathlib.Core.Path.{◌≡◌}
use native.Mathlib.Omega.{arith}
use lib.ListN.{length}
use Rattle.plan_reclaim.proofs.Raising.{rises_start, rise_fits, rises_turn, rises_most, rises_end}
use Rattle.plan_reclaim.proofs.raise.credit_rises.Goals as goal

pub loop-c-init : goal.loop-c-init
loop-c-init c = (omega arith, rises_start c.requires.zeros)

pub credit-requires-clause-no_overflow : goal.credit-requires-clause-no_overflow
credit-requires-clause-no_overflow c =
    (rise_fits c.loop-c.invariant.1 c.from.ensures c.from-in-loop-c.ensures (c.requires.cords _ c.loop-c-test.true) (omega (arith, c.requires.sizes.0, c.loop-c-test.true))).1

pub loop-c-preserved : goal.loop-c-preserved
loop-c-preserved c = (omega (arith, c.loop-c-test.true), rises_turn c.loop-c.invariant.1 c.from.ensures c.from-in-loop-c.ensures (c.requires.cords _ c.loop-c-test.true) c.credit.ensures.credited)

pub returns : goal.returns
returns c =
    let all : c.loop-c.c ≡ length c.args.nodes.now = omega (arith, c.loop-c.invariant.0, c.loop-c-test.false) in
    record {
      in_range = rises_most c.loop-c.invariant.1 all c.requires.sizes.0;
      raised = rises_end c.loop-c.invariant.1 all;
    }
