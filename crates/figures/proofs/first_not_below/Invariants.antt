use Rattle.figures.proofs.Search.{Searching}
use Rattle.figures.proofs.first_not_below.Given as goal

abbrev pub invariant-loop-i : goal.invariant-loop-i
invariant-loop-i l = Searching l.bound l.list l.i
