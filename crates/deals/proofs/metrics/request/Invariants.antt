use lib.ListN.{length}
use Rattle.deals.proofs.Requesting.{RequestTurn}
use Rattle.deals.proofs.metrics.request.Given as goal

abbrev pub invariant-loop-i : goal.invariant-loop-i
invariant-loop-i l = RequestTurn l.parents l.active (length l.active) l.level l.initial.left l.initial.wholes (length l.initial.weights) l.initial.cuts l.initial.bases l.initial.requests l.i l.left l.wholes l.weights l.cuts l.bases l.requests
