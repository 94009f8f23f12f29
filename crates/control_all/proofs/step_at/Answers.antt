-- `step_at` meets its contract: the controller at its place is judged, and then the cords at theirs.
use Rattle.std.proofs.Common.{arith}
use Rattle.control.proofs.Cords.{stepped_by_all}
use Rattle.control_all.proofs.step_at.Goals as goal

pub returns : goal.returns
returns c =
    record {
      result =
          rw (c.step_by.ensures.result, c.tally.ensures.result, c.controller_at-controller.ensures.result) (stepped_by_all _ _ (omega arith));
    }
