-- `check_load` tells a server's cords: their count, the cords, and that their shares make the whole; and credits their lows.
use mathlib.Core.Path.{sym, ◌∙◌}
use Prim.Native.Nat.{◌≤◌}
use native.Mathlib.Omega.{arith}
use borrow.Author.Tests.{eq-eqb, ne_eqb}
use Rattle.rooms.specs.Table.{most_server_cords, load}
use Rattle.rooms.proofs.Inversion.{many-length}
use Rattle.rooms.proofs.Steps.{passed_on, stop, pass, pass_word, ensured, denied, gives, word-told, word_most}
use Rattle.rooms.proofs.CreditTurns.{stopped, load_credits}
use Rattle.rooms.proofs.table.Bounds.check_load.Goals as goal

pub returns-in_err-count : goal.returns-in_err-count
unfolding load
returns-in_err-count c =
    let both = stopped _ _ (stop _ _ _ _ (rw c.min.ensures at c.in_err-count.ensures.result)) in
    record { result = passed_on c.from_residual.ensures.1 both.0; credited = both.1 }

pub check_cords-requires : goal.check_cords-requires
check_cords-requires c =
    let count_few : c.in_ok-count.count ≤ most_server_cords = omega (arith, word_most _ _ _ _ c.in_ok-count.ensures.result, c.min.ensures) in
    record {
      in_range = (omega (arith, count_few), c.requires.in_range.1);
      sums_fit = (c.requires.sums_fit.0, omega (arith, count_few, c.requires.sums_fit.1));
    }

pub returns-in_err-shares : goal.returns-in_err-shares
unfolding load
returns-in_err-shares c =
    let both = stopped _ _
    (pass_word _ _ _ (rw c.min.ensures at c.in_ok-count.ensures.result)
    (stop _ _ _ _ c.in_err-shares.ensures.result)) in
    record { result = passed_on c.from_residual-in_err-shares.ensures.1 both.0; credited = both.1 }

pub returns-then-shares-self : goal.returns-then-shares-self
unfolding load
returns-then-shares-self c =
    let both = stopped _ _
    (pass_word _ _ _ (rw c.min.ensures at c.in_ok-count.ensures.result)
    (pass _ _ _ _ c.in_ok-shares.ensures.result (λ l is sum.
    denied _ _ _ _ _ _ (ne_eqb _ _ (λ z. c.if-shares-self.true (sym sum ∙ z)))))) in
    record { result = both.0; credited = both.1 }

pub returns : goal.returns
unfolding load
returns c =
    let count_few : c.in_ok-count.count ≤ most_server_cords = omega (arith, word_most _ _ _ _ c.in_ok-count.ensures.result, c.min.ensures) in
    let word = word-told _ _ _ _ c.in_ok-count.ensures.result in
    record {
      result =
          pass_word _ _ _ (rw c.min.ensures at c.in_ok-count.ensures.result)
          (pass _ _ _ _ c.in_ok-shares.ensures.result (λ l is sum.
          ensured _ _ _ _ _ _ (eq-eqb _ _ (sum ∙ c.if-shares-self.false)) (gives _ _ _ (sym (many-length _ _ _ _ _ _ _ _ is)))));
      credited = load_credits _ _ _ _ _ _ _ word.0 word.1 count_few c.check_cords.ensures.credited;
    }
