-- `server_count` meets its contract: the word behind the nodes.
use Rattle.rooms.proofs.Counts.{servers-told}
use Rattle.rooms.proofs.lists.server_count.Goals as goal

pub returns-clause-count : goal.returns-clause-count
returns-clause-count c = servers-told _ c.servers_index.ensures.result.0 c.word.ensures.result
