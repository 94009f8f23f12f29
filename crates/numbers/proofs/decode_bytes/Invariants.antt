use Rattle.std.proofs.Common.{◌+◌, ◌-◌}
use Rattle.numbers.proofs.DecodeLoop.{Inv}
use Rattle.numbers.proofs.decode_bytes.Given as goal

abbrev pub invariant-loop-next : goal.invariant-loop-next
invariant-loop-next l = Inv l.sheet l.at l.value l.unit l.next (l.at + 4 - l.next)
