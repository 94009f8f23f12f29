use lib.ListN.{length}
use Rattle.figures.proofs.Filled.{Filled}
use Rattle.plan_holders.proofs.Rows.{held_at}
use Rattle.plan_holders.proofs.name_holders.Given as goal

abbrev pub invariant-loop-c : goal.invariant-loop-c
invariant-loop-c l = Filled (held_at l.parents l.cuts l.cords l.wants l.grants) (length l.initial.held) l.c l.held
