-- `put` meets its contract: the groups still to be written complete the form at every turn (`PutLoop`).
use borrow.Author.Rules.{rules}
use Rattle.numbers.proofs.PutLoop.{begin, place, again, last}
use Rattle.numbers.proofs.put.Goals as goal

pub loop-rest-init : goal.loop-rest-init
loop-rest-init c = begin _ _ _ c.requires.value c.requires.space

pub bounds-sheet-next : goal.bounds-sheet-next
bounds-sheet-next c = place _ _ _ _ _ _ c.loop-rest.invariant

pub loop-rest-preserved : goal.loop-rest-preserved
loop-rest-preserved c = again _ _ _ _ _ _ c.loop-rest.invariant (search rules)

pub bounds-sheet-next-2 : goal.bounds-sheet-next-2
bounds-sheet-next-2 c = place _ _ _ _ _ _ c.loop-rest.invariant

pub returns : goal.returns
returns c =
    let both = last _ _ _ _ _ _ c.loop-rest.invariant (search rules) in
    record { next = both.0; stored = both.1 }
