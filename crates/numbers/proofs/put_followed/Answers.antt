-- `put_followed` meets its contract: `put` stores a form of three or four bytes; a shorter one is two bytes (`short`).
use borrow.Author.Rules.{rules}
use native.Mathlib.Omega.{arith}
use lib.ListN.{length-set}
use Rattle.numbers.proofs.NumberLaws.{1≤length_form}
use Rattle.numbers.proofs.PutFollowed.{long, short}
use Rattle.numbers.proofs.put_followed.Goals as goal

pub returns-then-value-ge16384 : goal.returns-then-value-ge16384
returns-then-value-ge16384 c =
    record {
      next = c.put.ensures.next;
      stored = long _ _ _ _ _ c.put.ensures.next c.put.ensures.stored;
    }

pub bounds-sheet-at-2 : goal.bounds-sheet-at-2
bounds-sheet-at-2 c = simp length-set (omega (arith, 1≤length_form c.args.value))

pub returns : goal.returns
returns c =
    let both = short _ _ _ (search rules) in
    record { next = both.0; stored = both.1 }
