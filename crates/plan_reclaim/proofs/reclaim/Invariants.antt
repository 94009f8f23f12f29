use Prim.Native.Nat.{◌≤◌}
use lib.ListN.{length}
use Rattle.plan_reclaim.proofs.Reclaiming.{Reclaiming}
use Rattle.plan_reclaim.proofs.reclaim.Given as goal

abbrev pub invariant-loop-c : goal.invariant-loop-c
invariant-loop-c l = (l.c ≤ length l.cords) × Reclaiming l.scale l.cords l.usable l.grants l.initial.wants l.initial.starts l.c l.freed l.starts l.wants
