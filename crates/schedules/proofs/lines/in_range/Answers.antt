-- `in_range` meets its contract.
use Rattle.std.proofs.Common.{arith}
use Rattle.std.proofs.lemmas.Bool.Decides.{nat_tests}
use Rattle.schedules.specs.Schedule.{in_range}
use Rattle.schedules.proofs.lines.in_range.Goals as goal
use Rattle.schedules.proofs.lines.in_range.Goals.{then-contains, else-contains}

pub returns-then-parent-place : goal.returns-then-parent-place
unfolding in_range
returns-then-parent-place c = elim c.if-contains.branch [ then-contains w ↦ grind (arith, nat_tests) | else-contains w ↦ grind (arith, nat_tests) ]

pub returns-else-parent-place : goal.returns-else-parent-place
unfolding in_range
returns-else-parent-place c = elim c.if-contains.branch [ then-contains w ↦ grind (arith, nat_tests) | else-contains w ↦ grind (arith, nat_tests) ]
