-- `fill_rows` meets its contract: before each turn the nodes passed have their rows.
use mathlib.Core.Path.{refl, ap}
use mathlib.Core.List.{[]}
use Prim.Native.Nat.{ℕ}
use lib.ListN.{get_or}
use Rattle.plan_holders.proofs.Rows.{filling_start, filling_next, filling_end}
use Rattle.plan_holders.proofs.fill_rows.Goals as goal

pub loop-n-init : goal.loop-n-init
loop-n-init c = filling_start c.requires.nodes.0 c.requires.nodes.1

pub loop-n-preserved : goal.loop-n-preserved
loop-n-preserved c =
    filling_next c.requires.nodes.0 c.loop-n.invariant c.loop-n-test.true
    (ap (λ (k : ℕ). get_or c.loop-n.rows k []) c.from.ensures) refl refl c.next_row.ensures.result

pub returns : goal.returns
returns c = record { holders = filling_end c.loop-n.invariant c.loop-n-test.false }
