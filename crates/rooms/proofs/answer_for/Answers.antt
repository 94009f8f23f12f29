-- `answer_for` meets its contract: the table is checked, and only the output's length is left to decide.
use Rattle.rooms.proofs.Steps.{passed_on, known}
use Rattle.rooms.proofs.Outcomes.{refused_so, table_refused, table_short, table_accepted}
use Rattle.rooms.proofs.answer_for.Goals as goal

pub returns-in_err-check : goal.returns-in_err-check
returns-in_err-check c = record { result = passed_on c.from_residual.ensures.1 (table_refused _ _ (refused_so _ _ c.in_err-check.ensures.result)) }

pub returns-then-space-count : goal.returns-then-space-count
returns-then-space-count c = record { result = table_short _ _ (known _ _ c.in_ok-check.ensures.result).is c.if-space-count.true }

pub returns : goal.returns
returns c = record { result = table_accepted _ _ (known _ _ c.in_ok-check.ensures.result).is c.if-space-count.false }
