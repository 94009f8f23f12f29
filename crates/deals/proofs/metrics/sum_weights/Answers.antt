-- `sum_weights` meets its contract: before each turn the weights of the cords of the entries passed are summed on their nodes.
use mathlib.Core.Path.{refl}
use native.Mathlib.Omega.{arith}
use Rattle.deals.proofs.CordSums.{cord_bounds, weights_start, weight_fits, weights_next, fill_zeros}
use Rattle.deals.proofs.metrics.sum_weights.Goals as goal

pub loop-cord-init : goal.loop-cord-init
loop-cord-init c =
    let cleared = fill_zeros c.args.wholes.now c.requires.size (c.fill.ensures.after (λ y e. e)) in
    weights_start c.requires.cords refl (omega (arith, c.requires.size, cleared.size)) cleared.zeros

pub credit-requires-clause-no_overflow : goal.credit-requires-clause-no_overflow
credit-requires-clause-no_overflow c =
    (weight_fits c.loop-cord.invariant c.loop-cord-test.true c.from-c.ensures c.from-number.ensures
    (omega (arith, c.from.ensures, cord_bounds c.requires.cords c.loop-cord-test.true c.from-c.ensures))).1

pub loop-cord-preserved : goal.loop-cord-preserved
loop-cord-preserved c =
    weights_next c.loop-cord.invariant c.loop-cord-test.true c.from-c.ensures c.from-number.ensures c.from.ensures c.credit.ensures.credited
