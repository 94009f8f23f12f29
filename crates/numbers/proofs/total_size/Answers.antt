-- `total_size` meets its contract: the words that are still to be measured complete the sum at every turn (`Sizing`).
use native.Mathlib.Omega.{arith}
use lib.ListN.{get_or}
use Rattle.numbers.proofs.NumberLaws.{length_form≤4}
use Rattle.numbers.proofs.SheetLoops.{sizing_begin, sizing_again, sizing_end}
use Rattle.numbers.proofs.total_size.Goals as goal

pub loop-word-init : goal.loop-word-init
loop-word-init c = sizing_begin _

pub overflow_add-total : goal.overflow_add-total
overflow_add-total c = omega (arith, length_form≤4 (get_or c.args.words.now c.loop-word.word-index 0))

pub loop-word-preserved : goal.loop-word-preserved
loop-word-preserved c = sizing_again _ _ _ c.loop-word.invariant _ c.loop-word-test.true c.size-total.ensures.result

pub returns : goal.returns
returns c = record { result = sizing_end _ _ _ c.loop-word.invariant c.loop-word-test.false }
