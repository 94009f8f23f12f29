use Rattle.plan_holders.proofs.Rows.{Turning}
use Rattle.plan_holders.proofs.next_row.Given as goal

abbrev pub invariant-loop-level : goal.invariant-loop-level
invariant-loop-level l = Turning l.initial.holder-items l.cut l.number l.level l.holder-items
