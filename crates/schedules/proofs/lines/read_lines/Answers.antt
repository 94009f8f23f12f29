-- `read_lines` meets its contract: the lines that are still to be read complete the answer and the list at every turn (`ReadingLines`).
use Rattle.std.proofs.Common.{◌+◌, ◌*◌, ◌<◌, length, arith, length-set}
use Rattle.std.proofs.lemmas.Result.{err_from_is_err_and}
use Rattle.rooms.specs.Table.{most_nodes}
use Rattle.schedules.proofs.LineLaws.{judgement_good, judgement_bad}
use Rattle.schedules.proofs.LineLoop.{begin, end, stop, few_lines, rating_fits, again}
use Rattle.schedules.proofs.lines.read_lines.Goals as goal

pub loop-at-init : goal.loop-at-init
loop-at-init c = begin _ _

pub returns-in_err-entry : goal.returns-in_err-entry
returns-in_err-entry c =
    let told = err_from_is_err_and c.from_residual.result c.from_residual.ensures.1 in
    let both = stop _ _ _ _ _ c.loop-at.invariant c.loop-at-test.true (judgement_bad _ c.in_err-entry.ensures.result) in
    rw (told.1, told.2) (record { result = both.0; few = tt; words = both.1 })

pub overflow_mul-words : goal.overflow_mul-words
overflow_mul-words c = omega (arith, rating_fits _ _ _ _ _ c.loop-at.invariant c.loop-at-test.true (judgement_good _ c.in_ok-entry.ensures.result))

pub bounds-words-index-in-loop-at : goal.bounds-words-index-in-loop-at
bounds-words-index-in-loop-at c =
    let few : c.loop-at.count < most_nodes = few_lines _ _ _ _ _ c.loop-at.invariant c.loop-at-test.true (judgement_good _ c.in_ok-entry.ensures.result) in
    let long : 2 + 2 * c.loop-at.count + 1 < length c.loop-at.words = omega (arith, c.loop-at.invariant.size) in
    simp length-set long

pub loop-at-smaller : goal.loop-at-smaller
loop-at-smaller c =
    let few : c.loop-at.count < most_nodes = few_lines _ _ _ _ _ c.loop-at.invariant c.loop-at-test.true (judgement_good _ c.in_ok-entry.ensures.result) in
    omega arith

pub loop-at-preserved : goal.loop-at-preserved
loop-at-preserved c = again _ _ _ _ _ c.loop-at.invariant c.loop-at-test.true (judgement_good _ c.in_ok-entry.ensures.result)

pub returns : goal.returns
returns c =
    let both = end _ _ _ _ _ c.loop-at.invariant c.loop-at-test.false in
    record { result = both.0; few = c.loop-at.invariant.few; words = both.1 }
