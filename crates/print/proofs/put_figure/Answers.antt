-- `put_figure` meets its contract: the figure is put where the word ends.
use Rattle.print.specs.Line.{labelled}
use Rattle.print.proofs.Putting.{then}
use Rattle.print.proofs.put_figure.Goals as goal

pub returns : goal.returns
unfolding labelled
returns c = record { put = then c.put-next.ensures.put c.put_decimal.ensures.put }
