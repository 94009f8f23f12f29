use Prim.Native.Nat.{◌-◌}
use Rattle.print.specs.Print.{lines_from, plan_line}
use Rattle.print.specs.Walk.{cord_line_at}
use Rattle.print.proofs.Putting.{Putting}
use Rattle.print.proofs.put_cords.Given as goal

abbrev pub invariant-loop-k : goal.invariant-loop-k
invariant-loop-k l =
    let line = cord_line_at l.cords (plan_line l.lists.grants.now l.lists.headroom.now l.lists.held.now) l.first in
    Putting l.initial.buffer l.start l.buffer l.next (lines_from (l.count - l.k) l.k line) (lines_from l.count 0 line)
