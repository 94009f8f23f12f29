-- `deal_nodes` meets its contract: before each turn the active nodes passed have their amounts and are served as children, and the others
-- their weights; a node that is not active has none.
use mathlib.Core.Path.{refl, ◌∙◌}
use Rattle.deals.proofs.NodeTurns.{nodes_start, node_may_serve, root_next, inner_next, deal_start, deal_within, deal_present, deal_here, deal_next, deal_end}
use Rattle.deals.proofs.dealing.deal_nodes.Goals as goal
use Rattle.deals.proofs.dealing.deal_nodes.Goals.{then-parent-ne0, else-parent-ne0}

pub loop-node-init : goal.loop-node-init
loop-node-init c =
    deal_start
    (nodes_start
    (record { rises = c.requires.nodes.2; listed = c.requires.weights; bounds = c.requires.in_range })
    c.requires.nodes.0
    refl
    c.requires.nodes.1)

pub serve-requires : goal.serve-requires
serve-requires c = record { may_serve = node_may_serve (deal_here c.loop-node.invariant c.loop-node-test.true c.from-m.ensures) (deal_within c.loop-node.invariant c.loop-node-test.true c.from-m.ensures) (deal_present c.loop-node.invariant c.loop-node-test.true c.from-m.ensures) _ _ c.from-weight.ensures c.from-parent.ensures c.if-parent-ne0.true }

pub loop-node-preserved : goal.loop-node-preserved
loop-node-preserved c =
    let here = deal_here c.loop-node.invariant c.loop-node-test.true c.from-m.ensures in
    let within = deal_within c.loop-node.invariant c.loop-node-test.true c.from-m.ensures in
    let some = deal_present c.loop-node.invariant c.loop-node-test.true c.from-m.ensures in
    elim c.if-parent-ne0.branch [
      | then-parent-ne0 w ↦ deal_next c.loop-node.invariant c.loop-node-test.true c.from-m.ensures (inner_next here within some _ _ c.from-weight.ensures c.from-parent.ensures w.if-parent-ne0.true _ (record { watts_are = w.serve.ensures.served.watts_are; before_is = w.before-is ∙ w.serve.ensures.served.before_is; dealt_is = w.dealt-is ∙ w.serve.ensures.served.dealt_is }) w.amounts-is)
      | else-parent-ne0 w ↦ deal_next c.loop-node.invariant c.loop-node-test.true c.from-m.ensures (root_next here within some _ _ c.from-weight.ensures c.from-parent.ensures w.if-parent-ne0.false w.amounts-is w.before-is w.dealt-is)
    ]

pub returns : goal.returns
returns c = record { nodes_dealt = deal_end c.loop-node.invariant c.loop-node-test.false }
