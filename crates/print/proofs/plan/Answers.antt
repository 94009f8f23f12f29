-- `plan` meets its contract: it lends as many rows as the room has servers and cords.
use Rattle.rooms.proofs.RowsLent.{servers_few, servers-front, servers-lent, cords_few, cords-front, cords-lent}
use Rattle.print.proofs.plan.Goals as goal

pub slice_bounds-servers-end : goal.slice_bounds-servers-end
slice_bounds-servers-end c = servers_few _ c.requires.good c.server_count-server_count.ensures.count

pub slice_bounds-plan_by-end : goal.slice_bounds-plan_by-end
slice_bounds-plan_by-end c = servers-front _ c.requires.good c.server_count-server_count.ensures.count _

pub slice_bounds-cords-end : goal.slice_bounds-cords-end
slice_bounds-cords-end c = cords_few _ c.requires.good c.cord_count-cord_count.ensures.count

pub slice_bounds-plan_by-end-2 : goal.slice_bounds-plan_by-end-2
slice_bounds-plan_by-end-2 c = cords-front _ c.requires.good c.cord_count-cord_count.ensures.count _

pub plan_by-requires-clause-sizes : goal.plan_by-requires-clause-sizes
plan_by-requires-clause-sizes c = (
  servers-lent _ c.requires.good c.server_count-server_count.ensures.count _,
  cords-lent _ c.requires.good c.cord_count-cord_count.ensures.count _,
)
