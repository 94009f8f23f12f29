-- `servers_index` meets its contract: the count of servers stands behind the nodes.
use Rattle.rooms.proofs.Counts.{index_told}
use Rattle.rooms.proofs.lists.servers_index.Goals as goal

pub returns : goal.returns
returns c = record { result = index_told c.args.table.now c.word.ensures.result c.has_percents.ensures.result c.node_count.ensures.word.0 c.node_count.ensures.word.1 c.node_index.ensures.result }
