use Prim.Native.Nat.{◌≤◌}
use lib.ListN.{length}
use Rattle.plan_reclaim.proofs.Raising.{RisesCredited}
use Rattle.plan_reclaim.proofs.raise.credit_rises.Given as goal

abbrev pub invariant-loop-c : goal.invariant-loop-c
invariant-loop-c l = (l.c ≤ length l.nodes) × RisesCredited l.nodes l.lows l.starts (length l.initial.raised) l.c l.raised
