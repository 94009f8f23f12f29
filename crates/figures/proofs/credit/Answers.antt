-- `credit` meets its contract: it stores at the node's place what `credited` sets there, and changes nothing for node 0.
use Rattle.figures.proofs.Credits.{credited_none, credited_some}
use Rattle.figures.proofs.credit.Goals as goal

pub returns-then-node-eq0 : goal.returns-then-node-eq0
returns-then-node-eq0 c = record { credited = credited_none _ _ _ c.if-node-eq0.true }

pub returns : goal.returns
returns c = record { credited = credited_some _ _ _ c.if-node-eq0.false }
