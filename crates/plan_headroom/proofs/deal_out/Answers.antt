-- `deal_out` meets its contract: the weights are dealt to the nodes, then to the cords.
use mathlib.Core.Path.{sym, ◌∙◌}
use native.Mathlib.Omega.{arith}
use Rattle.plan_headroom.proofs.Weights.{deal_nodes_asks, deal_cords_asks, take_wants_asks, shared}
use Rattle.plan_headroom.proofs.deal_out.Goals as goal

pub deal_nodes-requires : goal.deal_nodes-requires
deal_nodes-requires c =
    let all = deal_nodes_asks c.requires.lists c.requires.places.0 c.requires.weights c.requires.sizes.0 c.requires.sizes.1 c.requires.sizes.2 c.requires.sizes.3 in
    record { nodes = all.0; weights = all.1.0; in_range = all.1.1 }

pub deal_cords-requires : goal.deal_cords-requires
deal_cords-requires c =
    let all = deal_cords_asks c.requires.lists c.requires.places.0 c.requires.weights c.deal_nodes.ensures.nodes_dealt
    (omega (arith, c.requires.sizes.0, c.deal_nodes.auto.amounts)) (c.requires.sizes.1 ∙ sym c.deal_nodes.auto.amounts) (c.deal_nodes.auto.before ∙ c.requires.sizes.2 ∙ sym c.deal_nodes.auto.amounts) (c.deal_nodes.auto.dealt ∙ c.requires.sizes.3 ∙ sym c.deal_nodes.auto.amounts) c.requires.places.1 in
    record { cords = all.0; sizes = all.1.0; in_range = all.1.1 }

pub take_wants-requires : goal.take_wants-requires
take_wants-requires c =
    record { lists = take_wants_asks c.requires.lists c.requires.places.0 c.requires.weights c.deal_nodes.ensures.nodes_dealt c.deal_cords.ensures.cords_dealt c.requires.lists.ceilings_size (c.deal_cords.auto.grants ∙ c.requires.places.1) }

pub returns : goal.returns
returns c =
    record { dealt_out = shared c.requires.lists c.requires.places.0 c.requires.weights c.deal_nodes.ensures.nodes_dealt c.deal_cords.ensures.cords_dealt c.requires.lists.ceilings_size c.take_wants.ensures.taken }
