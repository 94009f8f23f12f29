-- `add_cords` meets its contract: before each turn the cords of the entries passed are summed on their nodes.
use mathlib.Core.Path.{refl}
use native.Mathlib.Omega.{arith}
use Rattle.deals.proofs.CordSums.{cord_bounds, sums_start, start_fits, weight_fits, sums_next, fill_zeros}
use Rattle.deals.proofs.metrics.add_cords.Goals as goal

pub loop-cord-init : goal.loop-cord-init
loop-cord-init c =
    let cleared = fill_zeros c.args.wholes.now c.requires.sizes.1 (c.fill.ensures.after (λ y e. e)) in
    sums_start c.requires.cords refl refl c.requires.sizes.0 (omega (arith, c.requires.sizes.1, cleared.size)) c.requires.zeros cleared.zeros

pub credit-requires-clause-no_overflow : goal.credit-requires-clause-no_overflow
credit-requires-clause-no_overflow c =
    (start_fits c.loop-cord.invariant c.loop-cord-test.true c.from-c.ensures c.from-node.ensures
    (omega (arith, c.from.ensures, cord_bounds c.requires.cords c.loop-cord-test.true c.from-c.ensures))).1

pub credit-requires-in-loop-cord-clause-no_overflow : goal.credit-requires-in-loop-cord-clause-no_overflow
credit-requires-in-loop-cord-clause-no_overflow c =
    (weight_fits c.loop-cord.invariant.weights c.loop-cord-test.true c.from-c.ensures c.from-node.ensures
    (omega (arith, c.from-in-loop-cord.ensures, cord_bounds c.requires.cords c.loop-cord-test.true c.from-c.ensures))).1

pub loop-cord-preserved : goal.loop-cord-preserved
loop-cord-preserved c =
    sums_next c.loop-cord.invariant c.loop-cord-test.true c.from-c.ensures c.from-node.ensures
    c.from.ensures c.from-in-loop-cord.ensures c.credit.ensures.credited c.credit-in-loop-cord.ensures.credited
