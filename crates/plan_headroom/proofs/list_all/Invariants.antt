use lib.ListN.{length}
use Rattle.figures.proofs.Filled.{Filled}
use Rattle.plan_headroom.proofs.list_all.Given as goal

abbrev pub invariant-loop-place : goal.invariant-loop-place
invariant-loop-place l = Filled (λ n. n) (length l.initial.all) l.place l.all
