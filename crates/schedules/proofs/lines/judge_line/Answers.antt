-- `judge_line` meets its contract: the refusals of a line in their order.
use Rattle.std.proofs.Common.{refl, sym, ◌∙◌}
use Rattle.std.proofs.lemmas.Result.{err_from_is_err_and}
use Rattle.schedules.proofs.LineLaws.{or_good, or_bad, not_a_line, not_a_size, out_of_range, passes}
use Rattle.schedules.proofs.lines.judge_line.Goals as goal

pub returns-in_err-entry : goal.returns-in_err-entry
returns-in_err-entry c =
    let told = err_from_is_err_and c.from_residual.result c.from_residual.ensures.1 in
    let read = or_bad _ (rw c.read_line.ensures.result at c.in_err-entry.ensures.value) in
    rw (told.1, told.2, read.1, not_a_line c.args.place _ read.0) (record { result = refl })

pub returns-then-not-is_size : goal.returns-then-not-is_size
returns-then-not-is_size c =
    let read = or_good _ _ (rw c.read_line.ensures.result at c.in_ok-entry.ensures.value) in
    rw (not_a_size _ _ read (sym c.is_size.ensures.result ∙ c.if-not-is_size.true)) (record { result = refl })

pub returns-then-not-in_range : goal.returns-then-not-in_range
returns-then-not-in_range c =
    let read = or_good _ _ (rw c.read_line.ensures.result at c.in_ok-entry.ensures.value) in
    rw (out_of_range _ _ read (sym c.is_size.ensures.result ∙ c.if-not-is_size.false) (sym c.in_range.ensures.result ∙ c.if-not-in_range.true))
    (record { result = refl })

pub returns : goal.returns
returns c =
    let read = or_good _ _ (rw c.read_line.ensures.result at c.in_ok-entry.ensures.value) in
    rw (passes _ _ read (sym c.is_size.ensures.result ∙ c.if-not-is_size.false) (sym c.in_range.ensures.result ∙ c.if-not-in_range.false))
    (record { result = refl })
