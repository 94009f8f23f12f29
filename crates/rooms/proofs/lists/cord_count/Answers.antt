-- `cord_count` meets its contract: what a good table has besides its cords is told by its counts.
use Rattle.rooms.proofs.Counts.{cords-told}
use Rattle.rooms.proofs.lists.cord_count.Goals as goal

pub returns : goal.returns
returns c = record { count = rw c.saturating_sub.ensures (cords-told _ c.first_server.ensures.result.0 c.server_count.ensures.count) }
