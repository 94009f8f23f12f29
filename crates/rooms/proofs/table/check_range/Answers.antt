-- `check_range` tells least and greatest, and that they are in order.
use Rattle.rooms.specs.Table.{range}
use Rattle.rooms.proofs.Steps.{passed_on, stop, pass_word, pass_value, ensured, denied, gives}
use borrow.Author.Tests.{le-leb, lt-leb}
use mathlib.Core.Path.{refl}
use Rattle.rooms.proofs.table.check_range.Goals as goal

pub returns-in_err-least : goal.returns-in_err-least
unfolding range
returns-in_err-least c = record { result = passed_on c.from_residual.ensures.1 (stop _ _ _ _ c.in_err-least.ensures.result) }

pub returns-in_err-greatest : goal.returns-in_err-greatest
unfolding range
returns-in_err-greatest c =
    record {
      result = passed_on c.from_residual-in_err-greatest.ensures.1
          (pass_word _ _ _ c.in_ok-least.ensures.result
          (pass_value _ _ _ _
          (stop _ _ _ _ c.in_err-greatest.ensures.result)));
    }

pub returns-then-greatest-least : goal.returns-then-greatest-least
unfolding range
returns-then-greatest-least c =
    record {
      result =
          pass_word _ _ _ c.in_ok-least.ensures.result
          (pass_value _ _ _ _
          (pass_word _ _ _ c.in_ok-greatest.ensures.result
          (denied _ _ _ _ _ _ (lt-leb _ _ c.if-greatest-least.true))));
    }

pub returns : goal.returns
unfolding range
returns c =
    record {
      result =
          pass_word _ _ _ c.in_ok-least.ensures.result
          (pass_value _ _ _ _
          (pass_word _ _ _ c.in_ok-greatest.ensures.result
          (ensured _ _ _ _ _ _ (le-leb _ _ c.if-greatest-least.false) (gives _ _ _ refl))));
    }
