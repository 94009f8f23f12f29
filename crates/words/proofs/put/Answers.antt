-- `words::put` meets its contract: a turn puts one more byte behind those that are put.
use mathlib.Core.Path.{ap, ◌∙◌}
use mathlib.Core.List.{List}
use Prim.Native.Nat.{ℕ, ◌+◌}
use native.Mathlib.Omega.{arith}
use lib.ListN.{get_or, set}
use Rattle.figures.proofs.Stores.{sets_turn_at}
use Rattle.words.proofs.put.Goals as goal

pub loop-i-preserved : goal.loop-i-preserved
loop-i-preserved c =
    ap (λ (l : List ℕ). set l (c.args.at + c.loop-i.i) (get_or c.args.from.now c.loop-i.i 0)) c.loop-i.invariant
    ∙ sets_turn_at c.args.bytes.now c.args.from.now c.args.at c.loop-i.i 0 (omega arith)
