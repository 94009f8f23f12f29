-- `parent_across` meets its contract: no parent before i is across.
use mathlib.Core.Path.{◌∙◌}
use native.Mathlib.Omega.{arith}
use Rattle.part.proofs.AcrossLaws.{parent_found, parents_end, parents_again}
use Rattle.part.proofs.sides.parent_across.Goals as goal

pub returns-then-across : goal.returns-then-across
returns-then-across c = record { is = parent_found _ _ _ _ _ (omega arith) c.requires.there c.across.ensures.is c.if-across.true ∙ c.loop-i.invariant }

pub loop-i-preserved : goal.loop-i-preserved
loop-i-preserved c = parents_again _ _ _ _ _ c.requires.width (omega arith) c.requires.there c.across.ensures.is c.if-across.false c.loop-i.invariant

pub returns : goal.returns
returns c = record { is = parents_end _ _ _ _ _ (omega arith) ∙ c.loop-i.invariant }

-- No index is left behind the last one.
pub returns-else-across : goal.returns-else-across
returns-else-across c =
    record { is = parents_end _ _ _ _ _ (omega arith) ∙ parents_again _ _ _ _ _ c.requires.width (omega arith) c.requires.there c.across.ensures.is c.if-across.false c.loop-i.invariant }
