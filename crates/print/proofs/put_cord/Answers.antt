-- `put_cord` meets its contract: each figure is put where the one before it ends.
use Rattle.print.specs.Line.{cord_line}
use Rattle.print.proofs.Putting.{then}
use Rattle.print.proofs.put_cord.Goals as goal

pub returns : goal.returns
unfolding cord_line
returns c = record { put = then c.put_figure-a.ensures.put (then c.put_figure-b.ensures.put (then c.put_figure-c.ensures.put (then c.put_figure-d.ensures.put (then c.put_figure-e.ensures.put c.put.ensures.put)))) }
