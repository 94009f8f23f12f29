use mathlib.Core.Path.{◌≡◌}
use Rattle.part.proofs.AcrossLaws.{parents_left}
use Rattle.part.proofs.sides.parent_across.Given as goal

abbrev pub invariant-loop-i : goal.invariant-loop-i
invariant-loop-i l = parents_left l.table l.nodes l.width l.i l.fn.span.end ≡ parents_left l.table l.nodes l.width l.fn.span.start l.fn.span.end
