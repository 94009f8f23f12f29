-- `check_server` tells a server: its rank, its range, its load; and credits its lows.
use mathlib.Core.Path.{refl}
use native.Mathlib.Omega.{arith}
use Rattle.rooms.specs.Table.{server}
use Rattle.rooms.proofs.Inversion.{range_is}
use Rattle.rooms.proofs.Steps.{passed_on, known, stop, pass_known, pass_word, pass_value, last}
use Rattle.rooms.proofs.CreditTurns.{stopped, server_credits}
use Rattle.rooms.proofs.table.Bounds.check_server.Goals as goal

pub returns-in_err-at_range : goal.returns-in_err-at_range
unfolding server
returns-in_err-at_range c =
    let both = stopped _ _ (pass_value _ _ _ _ (stop _ _ _ _ (rw c.from.ensures at c.in_err-at_range.ensures.result))) in
    record { result = passed_on c.from_residual.ensures.1 both.0; credited = both.1 }

pub returns-in_err-least : goal.returns-in_err-least
unfolding server
returns-in_err-least c =
    let both = stopped _ _ (pass_value _ _ _ _ (pass_word _ _ _ (rw c.from.ensures at c.in_ok-at_range.ensures.result) (stop _ _ _ _ c.in_err-least.ensures.result))) in
    record { result = passed_on c.from_residual-in_err-least.ensures.1 both.0; credited = both.1 }

pub check_load-requires : goal.check_load-requires
check_load-requires c =
    let range = known _ _ c.in_ok-least.ensures.result in
    let ends = range_is _ _ range.got _ range.is in
    record {
      in_range = (c.requires.in_range.0, omega (arith, range.figure, ends.ordered, ends.greatest));
      sums_fit = (c.requires.in_range.1, c.requires.in_range.2);
    }

pub returns : goal.returns
unfolding server
returns c =
    let rank = known _ _ (rw c.from.ensures at c.in_ok-at_range.ensures.result) in
    let range = known _ _ c.in_ok-least.ensures.result in
    record {
      result = pass_value _ _ _ _ (pass_word _ _ _ (rw c.from.ensures at c.in_ok-at_range.ensures.result) (pass_known _ _ _ _ range (last _ _ _ _ (λ _. refl) c.check_load.ensures.result)));
      credited = server_credits _ _ _ _ _ rank.is range.is range.figure c.check_load.ensures.credited;
    }
