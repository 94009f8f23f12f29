-- `lend` meets its contract: what is weighed and shared is the headroom.
use Rattle.plan_headroom.proofs.Weights.{all_nodes, here, sums_most, lend_weights}
use Rattle.plan_headroom.proofs.Headroom.{lend_lists, left_most, headroom_is}
use Rattle.plan_headroom.proofs.lend.Goals as goal

pub weigh-requires-clause-nodes : goal.weigh-requires-clause-nodes
weigh-requires-clause-nodes c = (all_nodes (lend_lists c.requires.lists.0.given) c.list_all.ensures.listed, (lend_lists c.requires.lists.0.given).rises)

pub weigh-requires-clause-sums_fit : goal.weigh-requires-clause-sums_fit
weigh-requires-clause-sums_fit c = sums_most (lend_lists c.requires.lists.0.given) c.list_all.ensures.listed c.sum_weights.new.wholes c.sum_weights.ensures.summed

pub weigh-requires-clause-idle : goal.weigh-requires-clause-idle
weigh-requires-clause-idle c n l none = absurd (here (lend_lists c.requires.lists.0.given) c.list_all.ensures.listed n l none)

pub deal_out-requires-clause-weights : goal.deal_out-requires-clause-weights
deal_out-requires-clause-weights c = lend_weights (lend_lists c.requires.lists.0.given) c.list_all.ensures.listed c.weigh.ensures.weighed (left_most c.requires.lists.0.given) c.sum_weights.ensures.summed

pub returns : goal.returns
returns c =
    let weights_at = lend_weights (lend_lists c.requires.lists.0.given) c.list_all.ensures.listed c.weigh.ensures.weighed (left_most c.requires.lists.0.given) c.sum_weights.ensures.summed in
    record { lent = λ limits levels lows starts given. headroom_is given weights_at c.weigh.ensures.weighed.weights_are c.deal_out.ensures.dealt_out c.deal_out.auto.headroom }
