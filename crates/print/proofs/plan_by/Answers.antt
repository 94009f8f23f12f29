-- `plan_by` meets its contract: the rows are the room's, and so the print of the rows is the room's.
use Rattle.print.proofs.Putting.{put_as}
use Rattle.print.proofs.Promises.{prints_room}
use Rattle.print.proofs.plan_by.Goals as goal

pub returns-clause-put : goal.returns-clause-put
returns-clause-put c room end is =
    let rows = c.lay_out_servers.ensures.laid_out room end is in
    put_as (prints_room _ room end _ _ _ _ _ _ _ is rows.0 rows.1) c.put_plan.ensures.put
