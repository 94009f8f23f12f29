use Rattle.plan_reclaim.proofs.Raising.{RisesTaken}
use Rattle.plan_reclaim.proofs.raise.take_rises.Given as goal

abbrev pub invariant-loop-n : goal.invariant-loop-n
invariant-loop-n l = RisesTaken l.parents l.initial.raised l.initial.left l.n l.raised l.left
