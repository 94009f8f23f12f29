use Rattle.control_all.proofs.Turns.{Before}
use Rattle.control_all.proofs.step_each.Given as goal

abbrev pub invariant-loop-i : goal.invariant-loop-i
invariant-loop-i l = Before l.initial.controllers l.cords.working.now l.cords.budgets.now l.cords.measured.now l.initial.results l.controllers l.results l.stepped l.i
