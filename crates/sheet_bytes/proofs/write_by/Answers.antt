-- `write_by` meets its contract: the words that are loaded decide, and the rest is what `rooms::write` ensures.
use native.Mathlib.Omega.{arith}
use mathlib.Core.Path.{refl}
use Rattle.calls.proofs.Calls.{call_short}
use Rattle.sheet_bytes.proofs.CallLaws.{write_done}
use Rattle.sheet_bytes.proofs.write_by.Goals as goal

pub returns-then-answer-lt-ANSWER_BYTES : goal.returns-then-answer-lt-ANSWER_BYTES
returns-then-answer-lt-ANSWER_BYTES c = record { called = call_short _ _ _ (omega arith) refl }

pub returns : goal.returns
returns c =
    record {
      called =
          write_done c.args.table.now c.args.words.now c.load-count.ensures.count c.load-count.ensures.loaded c.args.sheet.now c.args.answer.now c.requires.deciding
          (omega (arith, c.if-answer-lt-ANSWER_BYTES.false)) c.write-written.ensures.result c.write-written.ensures.sheet c.tell.ensures.told;
    }
