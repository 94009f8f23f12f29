-- `name_servers` meets its contract: the front of the list has the servers up to the one at hand, which is where they lead.
use native.Mathlib.Omega.{arith}
use mathlib.Core.Path.{◌≡◌, refl}
use lib.ListN.{length}
use Rattle.sender.specs.Period.{position_after}
use Rattle.sender.proofs.Periods.{position_after_suc, name_turn, name_end}
use Rattle.sender.proofs.name_servers.Goals as goal

pub loop-entry-init : goal.loop-entry-init
unfolding position_after
loop-entry-init c = (omega arith, refl, refl)

pub loop-entry-preserved : goal.loop-entry-preserved
loop-entry-preserved c =
    let turn = name_turn c.args.count c.args.position c.args.list.now c.loop-entry.entry-index (omega arith) in
    let moved = position_after_suc c.args.count c.args.position c.loop-entry.entry-index in
    (c.follow-server.ensures.result.1, (cc), (cc))

pub returns : goal.returns
returns c =
    record {
      list =
          let args = c.args in
          let all : c.loop-entry.entry-index ≡ length args.list.now = omega arith in
          cc (name_end args.count args.position args.list.now);
    }
