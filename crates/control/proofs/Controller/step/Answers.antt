-- `Controller::step` meets its contract: the controller is judged, and then its four cords.
use Rattle.std.proofs.Common.{◌≡◌, length, rules, arith}
use Rattle.control.proofs.Cords.{stepped_by_all}
use Rattle.control.proofs.Controller.step.Goals as goal

pub returns : goal.returns
returns c =
    let four : length c.args.readings ≡ 4 = search rules in
    record { result = rw (c.step_by.ensures.result, c.tally.ensures.result) (stepped_by_all c.args.self c.args.readings (omega arith)) }
