use Rattle.rooms.proofs.Laying.{Laying, LayingServer}
use Rattle.rooms.proofs.lists.lay_out_servers.Given as goal

abbrev pub invariant-loop-c : goal.invariant-loop-c
invariant-loop-c l = LayingServer l.table l.v l.start l.first l.count l.c l.word l.servers l.cords

abbrev pub invariant-loop-v : goal.invariant-loop-v
invariant-loop-v l = Laying l.table l.v l.start l.first l.first l.servers l.cords
