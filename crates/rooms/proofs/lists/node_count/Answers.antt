-- `node_count` meets its contract: the count is the second word.
use Rattle.rooms.proofs.Counts.{nodes-told}
use Rattle.rooms.proofs.lists.node_count.Goals as goal

pub returns-clause-count : goal.returns-clause-count
returns-clause-count c = nodes-told _ c.word.ensures.result
