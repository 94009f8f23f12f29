use Rattle.judge_totals.specs.Totals.{notes_in}
use Rattle.judge_totals.proofs.Noting.{NodeTurns}
use Rattle.judge_totals.proofs.note_nodes.Given as goal

abbrev pub invariant-loop-n : goal.invariant-loop-n
invariant-loop-n l = NodeTurns l.parents l.spare (notes_in l.initial.given l.initial.raised l.initial.wanting) l.over l.n (notes_in l.given l.raised l.wanting)
