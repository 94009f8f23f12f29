-- `all_of` meets its contract: by 0 the quotient is 0, and by any other whole the amount.
use mathlib.Core.Path.{sym}
use native.Mathlib.Nat.{mul-div_cancel}
use native.Mathlib.Omega.{arith}
use Rattle.splits.proofs.Splits.{quotient_none}
use Rattle.splits.proofs.all_of.Goals as goal

pub returns-then-whole-eq0 : goal.returns-then-whole-eq0
returns-then-whole-eq0 c = record { result = sym (quotient_none c.args.amount _ c.args.whole c.if-whole-eq0.true) }

pub returns-else-whole-eq0 : goal.returns-else-whole-eq0
returns-else-whole-eq0 c = record { result = sym (mul-div_cancel c.args.amount (omega (arith, c.if-whole-eq0.false))) }
