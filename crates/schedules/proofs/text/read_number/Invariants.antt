use Rattle.schedules.proofs.NumberLaws.{Reading}
use Rattle.schedules.proofs.text.read_number.Given as goal

abbrev pub invariant-loop-done : goal.invariant-loop-done
invariant-loop-done l = Reading l.text l.at l.value l.done
