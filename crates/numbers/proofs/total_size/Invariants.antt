use Rattle.numbers.proofs.SheetLoops.{Sizing}
use Rattle.numbers.proofs.total_size.Given as goal

abbrev pub invariant-loop-word : goal.invariant-loop-word
invariant-loop-word l = Sizing l.words l.total l.word-index
