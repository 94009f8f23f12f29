-- `step_in_place` meets its contract: the step of what the lists hold, its cap kept and its answer told.
use Rattle.std.proofs.Common.{refl, arith}
use Rattle.calls.proofs.Calls.{call_short}
use Rattle.control.proofs.Calls.{call_done}
use Rattle.control.proofs.call.step_in_place.Goals as goal

pub returns-then-answer-lt-ANSWER_BYTES : goal.returns-then-answer-lt-ANSWER_BYTES
returns-then-answer-lt-ANSWER_BYTES c = record { called = call_short _ _ _ (omega arith) refl }

pub returns : goal.returns
returns c =
    record {
      called =
          call_done _ _ c.if-answer-lt-ANSWER_BYTES.false c.of-before.ensures.result c.readings.ensures.result c.step-stepped.ensures.result
          c.keep_cap.ensures.controller (rw c.keep_cap.ensures.answer at c.tell.ensures.told);
    }
