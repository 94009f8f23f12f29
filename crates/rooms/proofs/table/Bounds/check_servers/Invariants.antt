use Prim.Native.Nat.{◌+◌, ◌-◌, ◌*◌, ◌≤◌}
use lib.ListN.{length}
use Rattle.figures.specs.Sums.{sum}
use Rattle.rooms.specs.Table.{server, servers, cord_count, most_server_cords, most_cords, most_watts}
use Rattle.rooms.specs.Credits.{credited_servers}
use Rattle.figures.specs.Figures.{at}
use Rattle.rooms.proofs.Steps.{Row}
use Rattle.rooms.proofs.CreditTurns.{row_of, ServersCrediting}
use Rattle.rooms.proofs.table.Bounds.check_servers.Given as goal

abbrev pub invariant-loop : goal.invariant-loop
invariant-loop l = record {
  few : l.before ≤ most_cords;
  row : Row cord_count (server l.self.scale l.self.node_count) (λ before s. before + cord_count s) l.w l.count 0 l.i l.before (l.count - l.counter) l.before l.j;
  credits : ServersCrediting l.self.scale l.self.node_count l.w (credited_servers l.self.scale (row_of (servers l.self.scale l.self.node_count l.count 0 l.w l.i)) l.initial.sums) (length l.initial.sums) (sum l.self.node_count (at l.initial.sums) + most_server_cords * most_watts * l.count) (l.count - l.counter) l.before l.j l.sums;
}
