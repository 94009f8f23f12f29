-- `join_by` meets its contract: just what is accepted is stored.
use mathlib.Core.Path.{refl}
use native.Mathlib.Omega.{arith}
use Rattle.calls.proofs.Calls.{call_short}
use Rattle.join.proofs.Together.{written_fits, stored}
use Rattle.join.proofs.join_by.Goals as goal

pub returns-then-answer-lt-ANSWER_BYTES : goal.returns-then-answer-lt-ANSWER_BYTES
returns-then-answer-lt-ANSWER_BYTES c = record { call = call_short _ _ _ (omega arith) refl }

pub returns : goal.returns
returns c =
    record {
      call =
          stored _ c.join_words-told.ensures.answers c.unwrap_or-count.ensures c.join_words-told.ensures.writes _ _ (written_fits _ _ _) (omega (arith, c.if-answer-lt-ANSWER_BYTES.false))
          c.store.ensures.stored c.tell.ensures.told;
    }
