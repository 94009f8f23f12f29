-- `put_decimal` meets its contract: the digits that `io::decimal` gives are the number's.
use mathlib.Core.Path.{◌∙◌}
use Rattle.print.proofs.Digits.{digits_decimal}
use borrow.Author.Rules.{rules}
use Rattle.print.proofs.put_decimal.Goals as goal

pub returns : goal.returns
returns c = record { put = rw (c.decimal-count.ensures.digits ∙ digits_decimal c.args.number c.decimal-count.result c.decimal-count.ensures.len (search rules)) at c.put.ensures.put }
