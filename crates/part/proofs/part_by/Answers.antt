-- `part_by` meets its contract: what is stored is told.
use mathlib.Core.Path.{refl}
use native.Mathlib.Omega.{arith}
use Rattle.calls.proofs.Calls.{call_short}
use Rattle.part.proofs.SidesMade.{call_stored}
use Rattle.part.proofs.part_by.Goals as goal

pub returns-then-answer-lt-LONG_ANSWER_BYTES : goal.returns-then-answer-lt-LONG_ANSWER_BYTES
returns-then-answer-lt-LONG_ANSWER_BYTES c = record { called = call_short _ _ _ (omega arith) (record { first_after = refl; second_after = refl }) }

pub returns : goal.returns
returns c = record { called = call_stored _ _ _ c.store_parts-parted.ensures.stored _ (omega (arith, c.if-answer-lt-LONG_ANSWER_BYTES.false)) c.tell.ensures.told }
