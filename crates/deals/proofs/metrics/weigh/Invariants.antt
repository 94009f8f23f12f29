use lib.ListN.{length}
use Rattle.deals.proofs.Weighing.{WeighTurn}
use Rattle.deals.proofs.metrics.weigh.Given as goal

abbrev pub invariant-loop-i : goal.invariant-loop-i
invariant-loop-i l = WeighTurn l.parents l.active (length l.active) l.initial.left l.initial.wholes (length l.initial.weights) l.i l.left l.wholes l.weights
