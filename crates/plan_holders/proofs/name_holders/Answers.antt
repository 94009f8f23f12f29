-- `name_holders` meets its contract: before each turn the cords passed have their holders.
use mathlib.Core.Path.{refl}
use native.Mathlib.Omega.{arith}
use Rattle.figures.proofs.Filled.{filled_one, filled_all}
use Rattle.figures.proofs.Cells.{zero_rows}
use Rattle.plan_holders.proofs.Rows.{held_is}
use Rattle.plan_holders.proofs.name_holders.Goals as goal

pub fill_rows-requires : goal.fill_rows-requires
fill_rows-requires c = record { nodes = (c.requires.lists.0.of_nodes, zero_rows 513 16) }

pub loop-c-preserved : goal.loop-c-preserved
loop-c-preserved c =
    filled_one _ c.loop-c.invariant (omega (arith, c.requires.lists.1, c.loop-c-test.true))
    (held_is c.requires.lists.0 c.fill_rows.ensures.holders c.loop-c-test.true c.from-node.ensures c.from-level.ensures c.held_by.ensures.result)

pub returns : goal.returns
returns c = record { named = filled_all _ _ c.loop-c.invariant c.requires.lists.1 c.loop-c-test.false (λ i l. refl) }
