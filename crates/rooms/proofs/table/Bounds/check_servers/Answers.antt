-- `check_servers` tells a row of servers and the count of all their cords, and credits their lows.
use Rattle.std.proofs.Common.{◌≡◌, ℕ, ◌+◌, ◌-◌, ap, arith}
use Rattle.rooms.proofs.Steps.{passed_on, row_end, row_stop, row_turn, server_most}
use Rattle.rooms.proofs.CreditTurns.{stopped, servers-end, servers_turn}
use Rattle.rooms.proofs.table.Bounds.check_servers.Goals as goal

pub returns-in_err-cords : goal.returns-in_err-cords
returns-in_err-cords c =
    let both = stopped _ _ (row_stop _ _ _ _ _ _ _ (omega arith) c.loop.invariant.row c.in_err-cords.ensures.result) in
    record { result = passed_on c.from_residual.ensures.1 both.0; credited = both.1 }

pub overflow_add-before : goal.overflow_add-before
overflow_add-before c = omega (arith, server_most _ _ _ _ _ c.loop.invariant.few c.in_ok-cords.ensures.result)

pub loop-preserved : goal.loop-preserved
loop-preserved c =
    let less : c.args.count - (c.loop.counter + 1) ≡ c.args.count - c.loop.counter - 1 = omega arith in
    record {
      few = server_most _ _ _ _ _ c.loop.invariant.few c.in_ok-cords.ensures.result;
      row = rw less (row_turn _ _ _ _ _ _ _ (omega arith) c.loop.invariant.row c.in_ok-cords.ensures.result (λ s count. ap (λ (n : ℕ). c.loop.before + n) count));
      credits = rw less (servers_turn _ c.loop.invariant.credits (omega arith) c.in_ok-cords.ensures.result c.check_server.ensures.credited c.check_server.auto.sums);
    }

pub returns : goal.returns
returns c =
    record {
      result = row_end _ _ _ _ _ _ _ (omega arith) c.loop.invariant.row;
      credited = servers-end _ _ _ _ c.loop.invariant.credits (omega arith);
    }
