use Prim.Native.Nat.{◌-◌}
use lib.ListN.{length}
use Rattle.figures.specs.Figures.{at}
use Rattle.figures.proofs.Filled.{Filled}
use Rattle.plan_headroom.proofs.take_wants.Given as goal

abbrev pub invariant-loop-c : goal.invariant-loop-c
invariant-loop-c l = Filled (λ h. at l.tops h - at l.wants h) (length l.initial.headroom) l.c l.headroom
