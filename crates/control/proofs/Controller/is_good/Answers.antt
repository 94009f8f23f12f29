-- `Controller::is_good` meets its contract: each branch is one of the conjunction.
use Rattle.std.proofs.Common.{arith}
use lib.Ieee.{of_bits}
use Rattle.control.specs.Step.{good_controller}
use Rattle.control.proofs.Controller.is_good.Goals as goal
use Rattle.control.proofs.Controller.is_good.Goals.{then-is_efficiency, else-is_efficiency}

pub returns-then-ordered : goal.returns-then-ordered
unfolding good_controller of_bits
returns-then-ordered c = elim c.if-is_efficiency.branch [ then-is_efficiency w ↦ grind arith | else-is_efficiency w ↦ grind arith ]

pub returns-else-ordered : goal.returns-else-ordered
unfolding good_controller of_bits
returns-else-ordered c = elim c.if-is_efficiency.branch [ then-is_efficiency w ↦ grind arith | else-is_efficiency w ↦ grind arith ]
