-- `put_plan` meets its contract: the servers are put where the line of the freed watts ends.
use Rattle.print.specs.Walk.{plan_print}
use Rattle.print.proofs.Putting.{then}
use Rattle.print.proofs.put_plan.Goals as goal

pub returns-clause-put : goal.returns-clause-put
unfolding plan_print
returns-clause-put c = then c.put_freed-next.ensures.put c.put_servers.ensures.put
