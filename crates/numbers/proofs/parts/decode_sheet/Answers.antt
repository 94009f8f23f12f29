-- `decode_sheet` meets its contract: the numbers that are still to be read complete the answer and the list at every turn (`ReadingSheet`).
use lib.Seq.{set_out}
use mathlib.Core.Path.{sym, ◌∙◌}
use Rattle.std.proofs.lemmas.Result.{err_from_is_err_and}
use Rattle.numbers.proofs.SheetLoops.{reading_begin, reading-end, reading_stop, reading_falls, reading_again}
use Rattle.numbers.proofs.parts.decode_sheet.Goals as goal
use Rattle.numbers.proofs.parts.decode_sheet.Goals.{then-count-words, else-count-words}

pub loop-at-init : goal.loop-at-init
loop-at-init c = reading_begin _ _ (λ i. (c.type_inv.sheet i).fits)

pub loop-at-smaller : goal.loop-at-smaller
loop-at-smaller c = reading_falls _ _ _ _ _ c.loop-at.invariant c.loop-at-test.true _ _ c.in_ok-value.ensures.result

pub loop-at-preserved : goal.loop-at-preserved
loop-at-preserved c =
    reading_again _ _ _ _ _ c.loop-at.invariant c.loop-at-test.true _ _ c.in_ok-value.ensures.result _ (elim c.if-count-words.branch [
      | then-count-words w ↦ w.words-is
      | else-count-words w ↦ w.words-is ∙ sym (set_out _ _ _ w.if-count-words.false)
    ])

pub returns-in_err-value : goal.returns-in_err-value
returns-in_err-value c =
    let both = reading_stop _ _ _ _ _ c.loop-at.invariant c.loop-at-test.true _ c.in_err-value.ensures.result in
    let p = err_from_is_err_and c.from_residual.result c.from_residual.ensures.1 in
    record { result = rw (p.1, p.2) both.0; words = both.1 }

pub returns : goal.returns
returns c =
    let both = reading-end _ _ _ _ _ c.loop-at.invariant c.loop-at-test.false in
    record { result = both.0; words = both.1 }
