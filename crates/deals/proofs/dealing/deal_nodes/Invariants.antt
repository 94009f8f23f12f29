use lib.ListN.{length}
use Rattle.deals.proofs.NodeTurns.{DealTurn}
use Rattle.deals.proofs.dealing.deal_nodes.Given as goal

abbrev pub invariant-loop-node : goal.invariant-loop-node
invariant-loop-node l = DealTurn l.parents l.active (length l.active) l.initial.amounts l.wholes (length l.initial.before) l.node-index l.amounts l.before l.dealt
