use Rattle.rooms.specs.Credits.{parent_at, limit_at}
use Rattle.rooms.proofs.Gather.{Gathered}
use Rattle.rooms.proofs.lows.lowest_over.Given as goal

abbrev pub invariant-loop-n : goal.invariant-loop-n
invariant-loop-n l = Gathered (parent_at l.percents l.w) (limit_at l.percents l.w) l.node_count l.initial.sums l.found l.n l.sums
