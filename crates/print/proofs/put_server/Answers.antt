-- `put_server` meets its contract: each figure is put where the one before it ends.
use Rattle.print.specs.Line.{server_line}
use Rattle.print.proofs.Putting.{then}
use Rattle.print.proofs.put_server.Goals as goal

pub returns : goal.returns
unfolding server_line
returns c = record { put = then c.put_figure-a.ensures.put (then c.put_figure-b.ensures.put c.put.ensures.put) }
