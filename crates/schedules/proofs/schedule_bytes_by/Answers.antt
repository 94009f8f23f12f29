-- `schedule_bytes_by` meets its contract: just what is accepted is stored.
use Rattle.std.proofs.Common.{refl, arith}
use Rattle.calls.proofs.Calls.{call_short}
use Rattle.schedules.proofs.TableLaws.{written_fits, stored}
use Rattle.schedules.proofs.schedule_bytes_by.Goals as goal

pub returns-then-answer-lt-ANSWER_BYTES : goal.returns-then-answer-lt-ANSWER_BYTES
returns-then-answer-lt-ANSWER_BYTES c = record { called = call_short _ _ _ (omega arith) refl }

pub returns : goal.returns
returns c =
    record {
      called =
          stored _ _ _ _ c.schedule_words-told.ensures.answer c.schedule_words-told.ensures.words c.unwrap_or-count.ensures (written_fits _ _)
          c.if-answer-lt-ANSWER_BYTES.false c.store.ensures.stored c.tell.ensures.told;
    }
