use Rattle.schedules.proofs.SizeLaws.{Searching}
use Rattle.schedules.proofs.sizes.is_size.Given as goal

abbrev pub invariant-loop-size : goal.invariant-loop-size
invariant-loop-size l = Searching l.amperes l.size-index
