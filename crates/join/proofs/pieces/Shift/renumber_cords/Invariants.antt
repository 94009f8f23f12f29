use Prim.Native.Nat.{◌-◌}
use lib.ListN.{length}
use Rattle.join.specs.Pieces.{renumbered_cords}
use Rattle.join.proofs.PieceLaws.{Turning}
use Rattle.join.proofs.pieces.Shift.renumber_cords.Given as goal

abbrev pub invariant-loop-i : goal.invariant-loop-i
invariant-loop-i l =
    Turning (renumbered_cords l.self.up l.self.down l.left) (renumbered_cords l.self.up l.self.down 0 l.initial.words) l.initial.words l.words l.i

abbrev pub decreases-loop-i : goal.decreases-loop-i
decreases-loop-i l = length l.words - l.i
