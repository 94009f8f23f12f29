use lib.ListN.{length}
use Rattle.deals.proofs.CordSums.{WeightTurn}
use Rattle.deals.proofs.metrics.sum_weights.Given as goal

abbrev pub invariant-loop-cord : goal.invariant-loop-cord
invariant-loop-cord l = WeightTurn l.count l.listed l.nodes l.starts l.wants (length l.initial.wholes) l.cord-index l.wholes
