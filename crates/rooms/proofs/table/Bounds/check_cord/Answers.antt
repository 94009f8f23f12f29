-- `check_cord` tells a cord: its two words in order.
use Rattle.rooms.specs.Table.{cord}
use Rattle.rooms.proofs.Steps.{passed_on, stop, pass_word, last}
use mathlib.Core.Path.{refl}
use Rattle.rooms.proofs.table.Bounds.check_cord.Goals as goal

pub returns-in_err-at_share : goal.returns-in_err-at_share
unfolding cord
returns-in_err-at_share c = record { result = passed_on c.from_residual.ensures.1 (stop _ _ _ _ c.in_err-at_share.ensures.result) }

pub returns : goal.returns
unfolding cord
returns c =
    record {
      result =
          pass_word _ _ _ c.in_ok-at_share.ensures.result
          (last _ _ _ _ (λ _. refl) c.check_word-2.ensures.result);
    }
