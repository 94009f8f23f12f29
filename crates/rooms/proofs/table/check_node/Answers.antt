-- `check_node` tells a node: its words in order.
use Rattle.rooms.specs.Table.{node}
use Rattle.rooms.proofs.Steps.{passed_on, stop, pass_word, percent_last, percent_none}
use Rattle.rooms.proofs.table.check_node.Goals as goal

pub returns-in_err-at_rating : goal.returns-in_err-at_rating
unfolding node
returns-in_err-at_rating c = record { result = passed_on c.from_residual.ensures.1 (stop _ _ _ _ c.in_err-at_rating.ensures.result) }

pub returns-in_err-next : goal.returns-in_err-next
unfolding node
returns-in_err-next c =
    record {
      result = passed_on c.from_residual-in_err-next.ensures.1
          (pass_word _ _ _ c.in_ok-at_rating.ensures.result
          (stop _ _ _ _ c.in_err-next.ensures.result));
    }

pub returns-then-percents : goal.returns-then-percents
unfolding node
returns-then-percents c =
    record {
      result =
          pass_word _ _ _ c.in_ok-at_rating.ensures.result
          (pass_word _ _ _ c.in_ok-next.ensures.result
          (percent_last _ _ _ _ c.if-percents.true c.check_percent.ensures.result));
    }

pub returns : goal.returns
unfolding node
returns c =
    record {
      result =
          pass_word _ _ _ c.in_ok-at_rating.ensures.result
          (pass_word _ _ _ c.in_ok-next.ensures.result
          (percent_none _ _ _ _ c.if-percents.false));
    }
