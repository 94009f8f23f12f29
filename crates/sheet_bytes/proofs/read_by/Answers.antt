-- `read_by` meets its contract: the list takes the words that decide, and just those that are accepted are stored.
use mathlib.Core.Path.{refl, sym}
use native.Mathlib.Omega.{arith}
use lib.Seq.{length-take-le}
use Rattle.calls.proofs.Calls.{call_short}
use Rattle.sheet_bytes.proofs.CallLaws.{read_fits, read_done}
use Rattle.sheet_bytes.proofs.read_by.Goals as goal

pub returns-then-answer-lt-ANSWER_BYTES : goal.returns-then-answer-lt-ANSWER_BYTES
returns-then-answer-lt-ANSWER_BYTES c = record { called = call_short _ _ _ (omega arith) refl }

pub slice_bounds-store-end : goal.slice_bounds-store-end
slice_bounds-store-end c = read_fits c.args.sheet.now c.args.words.now c.args.table.now c.read_words-read.ensures.result c.read_words-read.ensures.words c.unwrap_or-count.ensures

pub slice_bounds-store-end-2 : goal.slice_bounds-store-end-2
slice_bounds-store-end-2 c =
    sym (length-take-le _ _ (read_fits c.args.sheet.now c.args.words.now c.args.table.now c.read_words-read.ensures.result c.read_words-read.ensures.words c.unwrap_or-count.ensures))

pub returns : goal.returns
returns c =
    record {
      called =
          read_done c.args.sheet.now c.args.words.now c.args.table.now c.read_words-read.ensures.result c.read_words-read.ensures.words c.unwrap_or-count.ensures
          c.requires.deciding _ (omega (arith, c.if-answer-lt-ANSWER_BYTES.false)) c.store.ensures.stored c.tell.ensures.told;
    }
