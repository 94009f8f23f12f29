-- `put_all` meets its contract: the words that are still to be written complete the sheet at every turn (`Writing`).
use Rattle.std.proofs.Common.{sym, ◌∙◌, arith}
use Rattle.std.proofs.lemmas.Bool.{eqb-true, eqb-false}
use Rattle.numbers.proofs.SheetLoops.{none_written, writing_begin, front_word, front_end, writing_fits, writing_again, writing_more, writing_fits_more, writing_last}
use Rattle.numbers.proofs.put_all.Goals as goal

pub returns-then-is_empty : goal.returns-then-is_empty
returns-then-is_empty c =
    let both = none_written _ c.args.sheet.now (eqb-true _ _ (sym c.is_empty.ensures ∙ c.if-is_empty.true)) in
    record { count = both.0; stored = both.1 }

pub loop-word-init : goal.loop-word-init
loop-word-init c = writing_begin _ _

pub put_followed-at-requires : goal.put_followed-at-requires
put_followed-at-requires c =
    let w = front_word c.args.words.now c.loop-word-test.true in
    record {
      value = rw w.1 (c.requires.values c.loop-word.word-index);
      space = rw w.1 (writing_fits_more _ _ _ _ _ c.loop-word.invariant w.0 c.requires.space);
    }

pub loop-word-preserved : goal.loop-word-preserved
loop-word-preserved c =
    let w = front_word c.args.words.now c.loop-word-test.true in
    let more = writing_more _ _ _ _ _ c.loop-word.invariant w.0 in
    writing_again _ _ _ _ _ c.loop-word.invariant (omega (arith, w.0)) _ _
    (rw w.1 at c.put_followed-at.ensures.next) c.put_followed-at.auto.sheet (rw w.1 at (c.put_followed-at.ensures.stored _ more))

pub put-requires : goal.put-requires
put-requires c =
    let e = front_end c.args.words.now (eqb-false _ _ (sym c.is_empty.ensures ∙ c.if-is_empty.false)) c.loop-word.auto.word-index-end c.loop-word-test.false in
    record {
      value = c.requires.values _;
      space = rw e.0 at (writing_fits _ _ _ _ _ c.loop-word.invariant e.1 c.requires.space);
    }

pub returns : goal.returns
returns c =
    let e = front_end c.args.words.now (eqb-false _ _ (sym c.is_empty.ensures ∙ c.if-is_empty.false)) c.loop-word.auto.word-index-end c.loop-word-test.false in
    let both = writing_last _ _ _ _ _ c.loop-word.invariant e.1 (omega (arith, e.0)) _ _ (rw e.0 c.put.ensures.next) (rw e.0 c.put.ensures.stored) in
    record { count = both.0; stored = both.1 }
