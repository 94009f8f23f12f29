-- `weigh` meets its contract: an active node's children's weights are whole when its turn comes, since all active nodes beneath it had
-- their turns before, and the others have none.
use mathlib.Core.Path.{refl}
use native.Mathlib.Omega.{arith}
use Rattle.deals.proofs.Weighing.{weigh_start, weigh_end, credit_fits, weigh_turn}
use Rattle.deals.proofs.metrics.weigh.Goals as goal

pub loop-i-init : goal.loop-i-init
loop-i-init c =
    weigh_start
    (record {
      nodes = c.requires.nodes.0;
      rises = c.requires.nodes.1;
      left_size = c.requires.sizes.0;
      own_fit = (c.requires.sizes.1, c.requires.sums_fit);
      weights_size = c.requires.sizes.2;
      idle = c.requires.idle;
    })

pub credit-requires-clause-no_overflow : goal.credit-requires-clause-no_overflow
credit-requires-clause-no_overflow c =
    (credit_fits c.loop-i.invariant c.loop-i-test.true c.from-n.ensures c.from.ensures
    (omega (arith, c.take-weight.ensures.weight, c.from-in-loop-i.ensures))).1

pub loop-i-preserved : goal.loop-i-preserved
loop-i-preserved c =
    weigh_turn c.loop-i.invariant c.loop-i-test.true c.from-n.ensures
    c.take-weight.ensures.weight c.take-weight.ensures.taken c.from-in-loop-i.ensures refl c.from.ensures c.credit.ensures.credited

pub returns : goal.returns
returns c = record { weighed = weigh_end c.loop-i.invariant c.loop-i-test.false }
