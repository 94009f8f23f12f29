use Rattle.numbers.proofs.SheetLoops.{Writing}
use Rattle.numbers.proofs.put_all.Given as goal

abbrev pub invariant-loop-word : goal.invariant-loop-word
invariant-loop-word l = Writing l.words l.initial.sheet l.sheet l.word-index l.at
