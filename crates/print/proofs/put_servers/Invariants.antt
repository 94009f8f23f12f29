use Rattle.print.specs.Print.{plan_line}
use Rattle.print.proofs.Turns.{Walking}
use Rattle.print.proofs.put_servers.Given as goal

abbrev pub invariant-loop-v : goal.invariant-loop-v
invariant-loop-v l =
    Walking l.servers l.cords l.lists.caps.now (plan_line l.lists.grants.now l.lists.headroom.now l.lists.held.now) l.initial.buffer l.start l.count l.buffer l.first l.next l.v
