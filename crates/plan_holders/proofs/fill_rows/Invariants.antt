use Rattle.plan_holders.proofs.Rows.{Filling}
use Rattle.plan_holders.proofs.fill_rows.Given as goal

abbrev pub invariant-loop-n : goal.invariant-loop-n
invariant-loop-n l = Filling l.parents l.cuts l.n l.rows
