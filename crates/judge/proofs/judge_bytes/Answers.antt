-- `judge_bytes` meets its contract: the words that are loaded decide, and the answer is told.
use Prim.Native.Nat.{ℕ, suc, ◌≤◌}
use native.Mathlib.Omega.{arith}
use lib.ListN.{length, replicate, length-replicate}
use Rattle.calls.proofs.Calls.{call_short}
use Rattle.rooms.specs.Table.{most_servers, most_cords, most_words}
use Rattle.judge.proofs.Calling.{call_told}
use Rattle.judge.proofs.judge_bytes.Goals as goal

-- The lists take enough words.
long : (n : ℕ) → n ≤ length {A = ℕ} (replicate n 0)
long n = omega (arith, length-replicate {A = ℕ} n 0)

pub returns-then-answer-lt-JUDGE_ANSWER_BYTES : goal.returns-then-answer-lt-JUDGE_ANSWER_BYTES
returns-then-answer-lt-JUDGE_ANSWER_BYTES c = record { called = call_short _ _ _ (omega arith) tt }

pub returns : goal.returns
returns c =
    record {
      called =
          call_told c.args.table.now _ c.args.demands.now _ c.args.grants.now _ c.args.answer.now (long (suc most_words)) (long (suc most_servers)) (long (suc most_cords))
          c.load-word_count.ensures.count c.load-word_count.ensures.loaded c.load-figure_count.ensures.count c.load-figure_count.ensures.loaded c.load-watt_count.ensures.count c.load-watt_count.ensures.loaded
          (omega (arith, c.if-answer-lt-JUDGE_ANSWER_BYTES.false)) c.judge_told-judged.ensures.told c.tell.ensures.told;
    }
