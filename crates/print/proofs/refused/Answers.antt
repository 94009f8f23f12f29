-- `refused` meets its contract: its number and its place are printed.
use Rattle.print.proofs.refused.Goals as goal

pub returns-clause-put : goal.returns-clause-put
returns-clause-put g c = rw (c.number.ensures.result, c.place.ensures.result) at c.refusal.ensures.put
