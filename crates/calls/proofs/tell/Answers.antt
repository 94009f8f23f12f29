-- `tell` meets its contract: a result's figures are told, or a refusal's two numbers.
use mathlib.Core.Path.{sym}
use mathlib.Core.List.{[], ◌∷◌}
use Rattle.std.proofs.lemmas.Bool.{OnTrue_at, OnFalse_at}
use Rattle.calls.proofs.Calls.{answered_short, told_refused}
use Rattle.calls.proofs.tell.Goals as goal

pub returns-then-holds : goal.returns-then-holds
returns-then-holds g c =
    record {
      told = rw c.in-Err.is (told_refused _ c.args.buffer.now (OnTrue_at c.if-holds.true c.holds.ensures.long) c.number.ensures.result c.place.ensures.result c.store.ensures.stored);
    }

pub returns-else-holds : goal.returns-else-holds
returns-else-holds g c =
    record {
      told =
          let refusal = g.R.Refusal in
          rw c.in-Err.is (sym (answered_short _ c.args.buffer.now (refusal.number_of c.in-Err.refusal ∷ refusal.place_of c.in-Err.refusal ∷ []) (OnFalse_at c.if-holds.false c.holds.ensures.short)));
    }
