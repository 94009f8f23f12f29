use Prim.Native.Nat.{suc, ◌+◌, ◌-◌}
use Rattle.rooms.specs.Table.{node}
use Rattle.rooms.specs.Told.{nothing}
use Rattle.rooms.proofs.Steps.{Row}
use Rattle.rooms.proofs.table.check_nodes.Given as goal

abbrev pub invariant-loop-own : goal.invariant-loop-own
invariant-loop-own l = Row nothing (node l.percents) (λ own _. suc own) l.w l.count 1 l.i 0 (l.count + 1 - l.own) l.own l.j
