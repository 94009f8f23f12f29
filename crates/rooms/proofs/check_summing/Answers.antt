-- `check_summing` meets its contract: the words are checked, then the lows against the limits, which leaves the lows beneath each node.
use Prim.Native.Nat.{ℕ}
use mathlib.Core.Path.{sym, ap, ◌∙◌}
use Rattle.std.specs.Prelude.{Err}
use Rattle.rooms.specs.Limits.{checked}
use Rattle.rooms.specs.declared.SheetRefusal.TheVariants.{LowsAboveLimit}
use Rattle.rooms.proofs.Whole.{checked_is}
use Rattle.figures.proofs.Credits.{all_zeros}
use Rattle.rooms.proofs.CreditTurns.{credits_from}
use Rattle.rooms.proofs.Found.{unclaimed, found_some, found_none}
use Rattle.rooms.proofs.Steps.{passed_on, known, stop, pass, ensured, denied, gives}
use borrow.Author.Rules.{rules}
use Rattle.rooms.proofs.check_summing.Goals as goal

pub check_table-requires : goal.check_table-requires
check_table-requires c = record { zeros = all_zeros _ _ c.requires.zeros }

pub returns-in_err-cords : goal.returns-in_err-cords
unfolding checked
returns-in_err-cords c =
    let both = unclaimed _ (stop _ _ _ _ c.in_err-cords.ensures.result) in
    record { result = passed_on c.from_residual.ensures.1 both.0; lows = both.1 }

pub overloaded-requires : goal.overloaded-requires
overloaded-requires c =
    let words = known _ _ c.in_ok-cords.ensures.result in
    record {
      good = (record { value = words.got; next = _; is = words.is }, search rules);
      credited = credits_from c.requires.zeros c.check_table.ensures.credited;
    }

pub returns-in-Some : goal.returns-in-Some
unfolding checked
returns-in-Some c =
    let both = unclaimed _
    (pass _ _ _ _ c.in_ok-cords.ensures.result (λ room is cords.
    let found = found_some _ (c.in-Some.ensures.result room _ is) in
    ap (λ (n : ℕ). Err (LowsAboveLimit n)) (sym found.0) ∙ denied _ _ _ _ _ _ found.1)) in
    record { result = both.0; lows = both.1 }

pub returns : goal.returns
unfolding checked
returns c =
    record {
      result = pass _ _ _ _ c.in_ok-cords.ensures.result (λ room is cords.
          ensured _ _ _ _ _ _ (found_none _ (c.in_default.ensures.result room _ is)) (gives _ _ _ (sym cords)));
      lows = λ room j is. c.in_default.ensures.sums room j (checked_is _ room j is).0;
    }
