-- `schedule_words` meets its contract: one law for each of its answers.
use Rattle.std.proofs.lemmas.Result.{err_from_is_err_and}
use Rattle.schedules.proofs.TableLaws.{whole_so, line_refused, lines_none, list_short, stands}
use Rattle.schedules.proofs.schedule_words.Goals as goal

pub returns-in_err-count : goal.returns-in_err-count
returns-in_err-count c =
    let told = err_from_is_err_and c.from_residual.result c.from_residual.ensures.1 in
    let both = line_refused _ _ _ c.in_err-count.ensures.result in
    record { answer = rw (told.1, told.2) both.0; words = both.1 }

pub returns-then-count-eq0 : goal.returns-then-count-eq0
returns-then-count-eq0 c =
    let both = lines_none _ _ (whole_so _ c.in_ok-count.ensures.result) _ c.if-count-eq0.true in
    record { answer = both.0; words = both.1 }

pub returns-then-space-servers : goal.returns-then-space-servers
returns-then-space-servers c =
    let both = list_short _ _ (whole_so _ c.in_ok-count.ensures.result) c.if-count-eq0.false _ c.if-space-servers.true in
    record { answer = both.0; words = both.1 }

pub returns : goal.returns
returns c =
    let lines_whole = whole_so _ c.in_ok-count.ensures.result in
    let both = stands _ _ lines_whole c.if-count-eq0.false _ _ c.requires.words_long c.read_lines.ensures.words c.if-space-servers.false in
    record { answer = both.0; words = both.1 }
