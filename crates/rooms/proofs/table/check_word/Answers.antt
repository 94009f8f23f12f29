-- `check_word` tells the word at an index: one law for each return.
use Rattle.rooms.proofs.Steps.{missing, under, over, inside}
use borrow.Author.Rules.{rules}
use Rattle.rooms.proofs.table.check_word.Goals as goal
use Rattle.rooms.proofs.table.check_word.Goals.{then-v-low-via-then-v-low, then-v-low-via-else-v-low+then-high-v}

pub returns-then-w-i : goal.returns-then-w-i
returns-then-w-i c = record { result = missing _ _ _ _ (search rules) }

pub returns-then-v-low : goal.returns-then-v-low
returns-then-v-low c = elim c.then-v-low.branch [
  | then-v-low-via-then-v-low w ↦ record { result = under _ _ _ _ c.if-w-i.false w.if-v-low.true }
  | then-v-low-via-else-v-low+then-high-v w ↦ record { result = over _ _ _ _ c.if-w-i.false w.if-v-low.false w.if-high-v.true }
]

pub returns : goal.returns
returns c = record { result = inside _ _ _ _ (search rules) (search rules) (search rules) }
