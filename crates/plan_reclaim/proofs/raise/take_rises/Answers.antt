-- `take_rises` meets its contract: a node's figure is whole when its turn comes, since all nodes beneath it had their turns before.
use mathlib.Core.Path.{ap}
use Prim.Native.Nat.{ℕ, ◌-◌}
use native.Mathlib.Omega.{arith}
use Rattle.figures.specs.Figures.{at}
use Rattle.deals.proofs.NodeSums.{summing_fits}
use Rattle.plan_reclaim.proofs.Raising.{taken_start, taken_next, taken_fits, taken_turn}
use Rattle.plan_reclaim.proofs.raise.take_rises.Goals as goal

pub loop-n-init : goal.loop-n-init
loop-n-init c = taken_start

pub overflow_sub-left : goal.overflow_sub-left
overflow_sub-left c = omega (arith, taken_fits (taken_next c.loop-n-test.true c.loop-n.invariant) c.requires.parents_first c.requires.enough, c.from.ensures)

pub credit-requires-clause-no_overflow : goal.credit-requires-clause-no_overflow
credit-requires-clause-no_overflow c =
    (summing_fits c.requires.parents_first (omega (arith, c.requires.sizes.0), c.requires.sizes.2) (taken_next c.loop-n-test.true c.loop-n.invariant).summed c.from-in-loop-n.ensures).1

pub loop-n-preserved : goal.loop-n-preserved
loop-n-preserved c =
    taken_turn (taken_next c.loop-n-test.true c.loop-n.invariant) c.requires.parents_first c.requires.enough c.requires.sizes.0 c.requires.sizes.1 (ap (λ (x : ℕ). x - at c.loop-n.raised (c.loop-n.n - 1)) c.from.ensures) c.from-in-loop-n.ensures c.credit.ensures.credited

pub returns : goal.returns
returns c = record { taken = λ n l. c.loop-n.invariant.taken n (omega (arith, c.loop-n-test.false)) l }
