-- `first_not_below` meets its contract: the words that are still to be searched complete the index at every turn (`Searching`).
use native.Mathlib.Omega.{arith}
use Rattle.figures.proofs.Search.{searching_begin, searching_again, searching_stop, searching_end}
use Rattle.figures.proofs.first_not_below.Goals as goal

pub loop-i-init : goal.loop-i-init
loop-i-init c = searching_begin _ _

pub returns-then-bound-word : goal.returns-then-bound-word
returns-then-bound-word c = record { found = (searching_stop _ _ _ c.loop-i.invariant (omega arith) (omega arith), omega arith) }

pub loop-i-preserved : goal.loop-i-preserved
loop-i-preserved c = searching_again _ _ _ c.loop-i.invariant (omega arith) (omega arith)

pub returns : goal.returns
returns c =
    let end = searching_end _ _ _ c.loop-i.invariant (omega arith) in
    record { found = omega (arith, end) }
