-- `check_percent` tells a percent: a word from 80 to 100 that is one of the two.
use mathlib.Core.Path.{refl}
use Rattle.rooms.specs.Table.{percent}
use Rattle.rooms.proofs.NodeWords.{is_either, is_neither}
use Rattle.rooms.proofs.Steps.{passed_on, stop, pass_word, pass_value, ensured, denied, gives}
use Rattle.rooms.proofs.table.check_percent.Goals as goal

pub returns-in_err-v : goal.returns-in_err-v
unfolding percent
returns-in_err-v c = record { result = passed_on c.from_residual.ensures.1 (pass_value _ _ _ _ (stop _ _ _ _ c.in_err-v.ensures.result)) }

pub returns-then-v-ne100 : goal.returns-then-v-ne100
unfolding percent
returns-then-v-ne100 c =
    record {
      result =
          pass_value _ _ _ _
          (pass_word _ _ _ c.in_ok-v.ensures.result
          (denied _ _ _ _ _ _ (is_neither _ c.if-v-ne80.true c.if-v-ne100.true)));
    }

pub returns : goal.returns
unfolding percent
returns c =
    record {
      result =
          pass_value _ _ _ _
          (pass_word _ _ _ c.in_ok-v.ensures.result
          (ensured _ _ _ _ _ _ (is_either _ c.else-v-ne80.either) (gives _ _ _ refl)));
    }
