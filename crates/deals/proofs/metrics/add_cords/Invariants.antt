use lib.ListN.{length}
use Rattle.deals.proofs.CordSums.{SumTurn}
use Rattle.deals.proofs.metrics.add_cords.Given as goal

abbrev pub invariant-loop-cord : goal.invariant-loop-cord
invariant-loop-cord l = SumTurn l.count l.listed l.nodes l.starts l.wants (length l.initial.bases) (length l.initial.wholes) l.cord-index l.bases l.wholes
