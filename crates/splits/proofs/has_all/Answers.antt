-- `has_all` meets its contract: the second test is made only after the first.
use mathlib.Core.Path.{◌∙◌}
use Rattle.splits.proofs.Serving.{both_tests, first_fails}
use Rattle.splits.proofs.has_all.Goals as goal

pub returns-then-alone : goal.returns-then-alone
returns-then-alone c = record { result = both_tests _ _ c.if-alone.true }

pub returns-else-alone : goal.returns-else-alone
returns-else-alone c = record { result = c.if-alone.false ∙ first_fails _ _ c.if-alone.false }
