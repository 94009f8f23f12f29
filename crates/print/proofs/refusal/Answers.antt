-- `refusal` meets its contract: each figure is put where the one before it ends.
use Rattle.print.specs.Line.{refused_line}
use Rattle.print.proofs.Putting.{then}
use Rattle.print.proofs.refusal.Goals as goal

pub returns-clause-put : goal.returns-clause-put
unfolding refused_line
returns-clause-put c = then c.put_figure-a.ensures.put (then c.put_figure-b.ensures.put c.put.ensures.put)
