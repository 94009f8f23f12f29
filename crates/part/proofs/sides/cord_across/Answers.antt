-- `cord_across` meets its contract: no cord before i is across, and what stands behind starts with the cords that are left.
use mathlib.Core.Path.{◌∙◌}
use native.Mathlib.Omega.{arith}
use Rattle.part.proofs.AcrossLaws.{cords-end, cord_found, server_again, cord_again}
use Rattle.part.proofs.sides.cord_across.Goals as goal

pub loop-i-preserved-then-left-eq0 : goal.loop-i-preserved-then-left-eq0
loop-i-preserved-then-left-eq0 c = server_again _ _ _ _ _ _ c.if-left-eq0.true c.requires.there c.count_at-left.ensures.is c.loop-i.invariant

pub returns-then-across : goal.returns-then-across
returns-then-across c = record { is = cord_found _ _ _ _ _ _ c.if-left-eq0.false c.loop-i-test.true c.requires.there c.across.ensures.is c.if-across.true ∙ c.loop-i.invariant }

pub loop-i-preserved : goal.loop-i-preserved
loop-i-preserved c = cord_again _ _ _ _ _ _ c.if-left-eq0.false c.loop-i-test.true c.requires.there c.across.ensures.is c.if-across.false c.loop-i.invariant

pub returns : goal.returns
returns c = record { is = cords-end _ _ _ _ _ _ (omega (arith, c.loop-i-test.false)) ∙ c.loop-i.invariant }
