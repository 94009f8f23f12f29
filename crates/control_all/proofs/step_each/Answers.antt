-- `step_each` meets its contract: each turn makes one controller's own step.
use Rattle.std.proofs.Common.{arith}
use Rattle.control_all.proofs.Turns.{before_first, before_next}
use Rattle.control_all.proofs.step_each.Goals as goal

pub loop-i-init : goal.loop-i-init
loop-i-init c = before_first _ _ _ _ _ c.requires.fitting_lists

pub loop-i-preserved : goal.loop-i-preserved
loop-i-preserved c =
    before_next _ _ _ _ _ c.loop-i.invariant (omega arith) c.step_at-step.ensures.result c.keep_at-number.ensures.controllers c.keep_at-number.ensures.number c.from-stepped.ensures
