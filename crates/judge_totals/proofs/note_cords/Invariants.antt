use lib.ListN.{length}
use Rattle.judge_totals.specs.Totals.{notes_in}
use Rattle.judge_totals.proofs.Walking.{Walking, WalkingServer}
use Rattle.judge_totals.proofs.note_cords.Given as goal

abbrev pub invariant-loop-c : goal.invariant-loop-c
invariant-loop-c l = WalkingServer (length l.initial.given) l.table l.demands l.grants l.scale l.v l.start l.first l.rank l.least l.need l.count l.c l.word l.above (notes_in l.given l.raised l.wanting)

abbrev pub invariant-loop-v : goal.invariant-loop-v
invariant-loop-v l = Walking (length l.initial.given) l.table l.demands l.grants l.scale l.v l.start l.first l.first l.above (notes_in l.given l.raised l.wanting)
