use Rattle.numbers.proofs.PutLoop.{Inv}
use Rattle.numbers.proofs.put.Given as goal

abbrev pub invariant-loop-rest : goal.invariant-loop-rest
invariant-loop-rest l = Inv l.value l.initial.sheet l.at l.sheet l.rest l.next

abbrev pub decreases-loop-rest : goal.decreases-loop-rest
decreases-loop-rest l = l.rest
