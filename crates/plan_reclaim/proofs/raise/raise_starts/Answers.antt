-- `raise_starts` meets its contract: what the first loop leaves on the nodes, the second takes from what the limits have left.
use lib.ListN.{length}
use Rattle.rooms.specs.Table.{most_nodes}
use Rattle.plan_reclaim.proofs.Raising.{zeros-front-at}
use Rattle.plan_reclaim.proofs.raise.raise_starts.Goals as goal

pub credit_rises-requires-clause-zeros : goal.credit_rises-requires-clause-zeros
credit_rises-requires-clause-zeros c = zeros-front-at most_nodes (length c.args.parents.now)
