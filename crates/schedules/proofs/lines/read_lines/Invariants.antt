use Prim.Native.Nat.{◌-◌}
use Rattle.schedules.proofs.LineLoop.{ReadingLines}
use Rattle.schedules.proofs.lines.read_lines.Given as goal

abbrev pub invariant-loop-at : goal.invariant-loop-at
invariant-loop-at l = ReadingLines l.text l.initial.words l.words l.at l.count

abbrev pub decreases-loop-at : goal.decreases-loop-at
decreases-loop-at l = 512 - l.count
