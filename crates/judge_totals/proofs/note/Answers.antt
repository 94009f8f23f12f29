-- `note` meets its contract: at the node's place is stored what is noted there; node 0 changes nothing.
use Rattle.judge_totals.specs.Totals.{notes_in}
use Rattle.judge_totals.proofs.Noted.{noted_nowhere, noted_there}
use Rattle.judge_totals.proofs.note.Goals as goal

pub returns-then-node-eq0 : goal.returns-then-node-eq0
returns-then-node-eq0 c = record { noted = noted_nowhere _ _ _ _ _ c.if-node-eq0.true }

pub returns : goal.returns
returns c = record { noted = noted_there _ _ _ _ (notes_in c.args.given.now c.args.raised.now c.args.wanting.now) c.if-node-eq0.false c.min.ensures c.max.ensures }
