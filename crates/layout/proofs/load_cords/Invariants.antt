use Rattle.layout.proofs.Loading.{Loading, LoadingServer}
use Rattle.layout.proofs.load_cords.Given as goal

abbrev pub invariant-loop-c : goal.invariant-loop-c
invariant-loop-c l = LoadingServer l.table l.demands l.scale l.v l.start l.first l.level l.least l.greatest l.need l.count l.c l.word l.cords l.lows l.wants l.ceilings l.needs

abbrev pub invariant-loop-v : goal.invariant-loop-v
invariant-loop-v l = Loading l.table l.demands l.scale l.v l.start l.first l.first l.cords l.lows l.wants l.ceilings l.needs
