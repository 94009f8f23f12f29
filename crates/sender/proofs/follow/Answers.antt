-- `follow` meets its contract: the test is that of the definition.
use native.Mathlib.Omega.{arith}
use Rattle.sender.proofs.Periods.{following_next, following_last}
use Rattle.sender.proofs.follow.Goals as goal

pub returns-then-server-count : goal.returns-then-server-count
returns-then-server-count c =
    record {
      result =
          let args = c.args in
          (omega (arith, following_next args.count args.server (omega arith)), omega arith);
    }

pub returns-else-server-count : goal.returns-else-server-count
returns-else-server-count c =
    record {
      result =
          let args = c.args in
          (omega (arith, following_last args.count args.server (omega arith)), omega arith);
    }
