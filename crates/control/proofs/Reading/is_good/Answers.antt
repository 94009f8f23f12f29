-- `Reading::is_good` meets its contract: the figures of a working cord are tested, and a failed one has none.
use Rattle.std.proofs.Common.{rules}
use Rattle.control.specs.Step.{good_reading}
use Rattle.control.proofs.Reading.is_good.Goals as goal

pub returns-in-Working : goal.returns-in-Working
unfolding good_reading
returns-in-Working c = search rules

pub returns-in-Failed : goal.returns-in-Failed
unfolding good_reading
returns-in-Failed c = search rules
