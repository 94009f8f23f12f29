-- `position_after` meets its contract: the position counts on up to the last server, and from the first on past it.
use mathlib.Core.Path.{sym}
use native.Mathlib.Omega.{arith}
use Rattle.sender.proofs.Periods.{position_after-on, position_after_round}
use Rattle.sender.proofs.position_after.Goals as goal

pub returns-then-named-left : goal.returns-then-named-left
returns-then-named-left c =
    record {
      result =
          let args = c.args in
          sym (position_after-on args.count args.named args.position (omega arith));
    }

pub returns-else-named-left : goal.returns-else-named-left
returns-else-named-left c =
    record {
      result =
          let args = c.args in
          sym (position_after_round args.count args.position args.named (omega arith) (omega arith) (omega arith));
    }
