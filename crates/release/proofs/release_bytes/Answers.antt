-- `release_bytes` meets its contract: every buffer that holds the answer holds the digits' part of the mark.
use native.Mathlib.Omega.{arith}
use Rattle.calls.proofs.Calls.{call_short, call_done}
use Rattle.release.proofs.release_bytes.Goals as goal

pub returns-then-answer-lt-LONG_ANSWER_BYTES : goal.returns-then-answer-lt-LONG_ANSWER_BYTES
returns-then-answer-lt-LONG_ANSWER_BYTES c = record { called = call_short _ _ _ (omega arith) tt }

pub returns : goal.returns
returns c = record { called = call_done _ _ _ (omega arith) tt (rw c.release_number-number.ensures.result at c.tell_figures.ensures.told) }
