-- `tell_figures` meets its contract: 0 is stored in front of the figures.
use mathlib.Core.Path.{sym, ap, ◌∙◌}
use mathlib.Core.List.{List, ◌∷◌}
use Prim.Native.Nat.{ℕ}
use Rattle.std.proofs.lemmas.Bool.{OnTrue_at, OnFalse_at}
use lib.Seq.{sets}
use Rattle.calls.specs.Call.{answer_bytes}
use Rattle.calls.proofs.Calls.{answered_short, told_accepted}
use Rattle.calls.proofs.tell_figures.Goals as goal

pub returns-then-not-holds : goal.returns-then-not-holds
returns-then-not-holds g c =
    record { told = sym (answered_short _ c.args.buffer.now (0 ∷ g.A.Figures.figures_of c.args.told) (OnFalse_at c.if-not-holds.true c.holds.ensures.short)) }

pub returns : goal.returns
returns g c =
    record {
      told =
          told_accepted _ c.args.buffer.now _ (OnTrue_at c.if-not-holds.false c.holds.ensures.long) c.store.ensures.stored
          (c.store-2.ensures.stored ∙ ap (λ (l : List ℕ). sets c.store.new.buffer 8 (answer_bytes l)) c.figures.ensures.result);
    }
