-- `put_freed` meets its contract: the line ends where the figure does.
use Rattle.print.specs.Line.{freed_line}
use Rattle.print.proofs.Putting.{then}
use Rattle.print.proofs.put_freed.Goals as goal

pub returns : goal.returns
unfolding freed_line
returns c = record { put = then c.put_figure-a.ensures.put c.put.ensures.put }
