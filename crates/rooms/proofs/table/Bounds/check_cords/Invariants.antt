use Prim.Native.Nat.{◌+◌, ◌-◌, ◌*◌, ◌≤◌}
use lib.ListN.{length}
use Rattle.figures.specs.Sums.{sum}
use Rattle.rooms.specs.Table.{cord, cords, share_of, most_watts, most_scale}
use Rattle.rooms.specs.Credits.{credited_cords}
use Rattle.figures.specs.Figures.{at}
use Rattle.rooms.proofs.Steps.{Row}
use Rattle.rooms.proofs.CreditTurns.{row_of, CordsCrediting}
use Rattle.rooms.proofs.table.Bounds.check_cords.Given as goal

abbrev pub invariant-loop : goal.invariant-loop
invariant-loop l = record {
  few : l.sum ≤ most_scale * l.counter;
  row : Row share_of (λ _. cord l.self.scale l.self.node_count) (λ given _. given) l.w l.count 0 l.i l.sum (l.count - l.counter) 0 l.j;
  credits : CordsCrediting l.self.scale l.self.node_count l.least l.w (credited_cords l.self.scale l.least (row_of (cords l.self.scale l.self.node_count l.count l.w l.i)) l.initial.sums) (length l.initial.sums) (sum l.self.node_count (at l.initial.sums) + most_watts * l.count) (l.count - l.counter) l.j l.sums;
}
