use lib.ListN.{length}
use Rattle.figures.proofs.Filled.{Filled}
use Rattle.rooms.specs.Credits.{parent_at, limit_at}
use Rattle.rooms.proofs.lists.lay_out_nodes.Given as goal

abbrev pub invariant-loop-m : goal.invariant-loop-m
invariant-loop-m l = Filled (parent_at l.percents l.table) (length l.initial.parents) l.m l.parents × Filled (limit_at l.percents l.table) (length l.initial.limits) l.m l.limits
