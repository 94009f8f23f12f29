use Rattle.deals.proofs.CordTurns.{CordTurn}
use Rattle.deals.proofs.dealing.deal_cords.Given as goal

abbrev pub invariant-loop-cord : goal.invariant-loop-cord
invariant-loop-cord l = CordTurn l.listed l.nodes l.starts l.wants l.wholes l.amounts l.initial.before l.initial.grants l.cord-index l.before l.dealt l.grants
