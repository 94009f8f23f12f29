use mathlib.Core.Bool.{◌&&◌}
use lib.Dec.{eqb, ltb}
use Rattle.figures.specs.Figures.{at}
use Rattle.rooms.proofs.Search.{NoneIn}
use Rattle.judge_totals.proofs.lowest_marked.Given as goal

abbrev pub invariant-loop-n : goal.invariant-loop-n
invariant-loop-n l = NoneIn (λ n. eqb (at l.parents n) 0 && ltb 0 (at l.marks n)) 0 l.n
