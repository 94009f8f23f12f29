use Prim.Native.Nat.{◌≤◌}
use lib.ListN.{length}
use Rattle.plan_reclaim.proofs.Reclaiming.{UsableBy}
use Rattle.plan_reclaim.proofs.usable_of.Given as goal

abbrev pub invariant-loop-c : goal.invariant-loop-c
invariant-loop-c l = (l.c ≤ length l.cords) × UsableBy l.scale l.cords l.initial.usable l.grants l.c l.usable
