use Rattle.deals.proofs.RankLoop.{RankLoop}
use Rattle.deals.proofs.by_rank.deal.Given as goal

abbrev pub invariant-loop-level : goal.invariant-loop-level
invariant-loop-level l = RankLoop l.parents l.levels l.order l.actives l.nodes l.starts l.wants l.initial.left l.level l.left l.cuts l.requests l.grants l.bases l.wholes l.amounts l.before l.dealt
