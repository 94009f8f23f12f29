-- `put_servers` meets its contract: what is put, followed by the servers that are left, is always the whole.
use native.Mathlib.Omega.{arith}
use mathlib.Core.Path.{ap, ◌∙◌}
use Prim.Native.Nat.{min}
use lib.Seq.{length-take-le, get_or-take}
use Rattle.rooms.specs.declared.lists.ServerRow.{ServerRow}
use Rattle.print.proofs.Turns.{walking_next, walked}
use Rattle.print.proofs.put_servers.Goals as goal

pub loop-v-preserved : goal.loop-v-preserved
loop-v-preserved c =
    let few = length-take-le c.min-count.result c.args.servers.now (omega (arith, c.min-count.ensures)) in
    let row = get_or-take c.min-count.result c.args.servers.now c.loop-v.v _ (omega (arith, c.loop-v-test.true)) in
    walking_next _ _ _ _ _ _ _ _ _ _ _ c.loop-v.invariant (omega (arith, c.loop-v-test.true)) c.figure.ensures.result
    (c.min-few.ensures ∙ ap (λ (r : ServerRow). min r.cords 4) row) c.put_server-next.ensures.put c.put_cords-next.ensures.put

pub returns : goal.returns
returns c =
    let few = length-take-le c.min-count.result c.args.servers.now (omega (arith, c.min-count.ensures)) in
    record { put = walked c.loop-v.invariant (omega (arith, c.loop-v-test.false)) c.min-count.ensures }
