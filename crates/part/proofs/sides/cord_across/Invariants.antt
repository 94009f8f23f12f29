use mathlib.Core.Path.{◌≡◌}
use Prim.Native.Nat.{◌-◌}
use Rattle.part.proofs.AcrossLaws.{cords_left}
use Rattle.part.proofs.sides.cord_across.Given as goal

abbrev pub invariant-loop-i : goal.invariant-loop-i
invariant-loop-i l = cords_left l.table l.nodes l.before l.left l.i l.span.end ≡ cords_left l.table l.nodes l.before 0 l.span.start l.span.end

abbrev pub decreases-loop-i : goal.decreases-loop-i
decreases-loop-i l = l.span.end - l.i
