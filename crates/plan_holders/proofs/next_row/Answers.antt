-- `next_row` meets its contract: before each turn the levels passed have their numbers.
use mathlib.Core.Path.{refl}
use borrow.Author.Rules.{rules}
use Rattle.plan_holders.proofs.Rows.{turning_start, turning_next, turning_end}
use Rattle.plan_holders.proofs.next_row.Goals as goal

pub loop-level-init : goal.loop-level-init
loop-level-init c = turning_start (search rules)

pub loop-level-preserved : goal.loop-level-preserved
loop-level-preserved c = turning_next c.loop-level.invariant c.loop-level-test.true refl c.own.ensures.result c.nearer_root.ensures.result

pub returns : goal.returns
returns c = record { result = turning_end c.loop-level.invariant c.loop-level-test.false }
