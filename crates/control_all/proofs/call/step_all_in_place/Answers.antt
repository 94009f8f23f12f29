-- `step_all_in_place` meets its contract: the pass of the lists, and its answer told.
use native.Mathlib.Omega.{arith}
use Rattle.control_all.proofs.Passes.{call_short, call_done}
use Rattle.control_all.proofs.call.step_all_in_place.Goals as goal

pub returns-then-answer-lt-ANSWER_BYTES : goal.returns-then-answer-lt-ANSWER_BYTES
returns-then-answer-lt-ANSWER_BYTES c = record { called = call_short _ _ _ _ (omega arith) }

pub returns : goal.returns
returns c =
    record {
      called =
          call_done _ _ _ _ (omega (arith, c.if-answer-lt-ANSWER_BYTES.false)) c.step_all-told.ensures.answer c.step_all-told.ensures.controllers c.step_all-told.ensures.results
          c.tell.ensures.told;
    }
