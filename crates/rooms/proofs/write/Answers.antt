-- `write` meets its contract: the table is checked, and only the sheet's length is left to decide.
use Rattle.rooms.proofs.Steps.{passed_on, known}
use Rattle.rooms.proofs.Outcomes.{refused_so, refused_done, accepted_done, writing_refused, writing_bytes, writing_unwritten}
use mathlib.Core.Path.{◌∙◌}
use Rattle.rooms.proofs.write.Goals as goal

pub returns-in_err-check : goal.returns-in_err-check
returns-in_err-check c =
    let both = refused_done _ _ (writing_refused _ _ (refused_so _ _ c.in_err-check.ensures.result)) in
    record { result = passed_on c.from_residual.ensures.1 both.0; sheet = both.1 }

pub returns-in_err-count : goal.returns-in_err-count
returns-in_err-count c =
    let good = known _ _ c.in_ok-check.ensures.result in
    let both = refused_done _ _ (writing_unwritten _ _ good.is c.in_err-count.ensures.result) in
    record {
      result = passed_on c.from_residual-in_err-count.ensures.1 both.0;
      sheet = c.in_err-count.ensures.sheet ∙ both.1;
    }

pub returns : goal.returns
returns c =
    let good = known _ _ c.in_ok-check.ensures.result in
    let done = writing_bytes _ _ good.is c.in_ok-count.ensures.result in
    let both = accepted_done _ _ _ _ done.0 done.1 c.in_ok-count.ensures.sheet in
    record { result = both.0; sheet = both.1 }
