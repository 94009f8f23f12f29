use Prim.Native.Nat.{◌-◌}
use Rattle.join.specs.Pieces.{renumbered_every}
use Rattle.join.proofs.PieceLaws.{Turning}
use Rattle.join.proofs.pieces.Shift.renumber_every.Given as goal

abbrev pub invariant-loop-i : goal.invariant-loop-i
invariant-loop-i l =
    Turning (renumbered_every (l.width - 1) l.self.up l.self.down 0) (renumbered_every (l.width - 1) l.self.up l.self.down 0 l.initial.words) l.initial.words l.words l.i
