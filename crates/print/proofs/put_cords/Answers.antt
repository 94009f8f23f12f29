-- `put_cords` meets its contract: what is put, followed by the lines of the cords that are left, is always the whole.
use native.Mathlib.Omega.{arith}
use Rattle.print.specs.Print.{plan_line}
use Rattle.print.specs.Walk.{cord_line_at}
use Rattle.print.proofs.Turns.{lines_next, lines_last}
use Rattle.print.proofs.put_cords.Goals as goal

pub loop-k-preserved : goal.loop-k-preserved
loop-k-preserved c =
    let line = cord_line_at c.args.cords.now (plan_line c.args.lists.grants.now c.args.lists.headroom.now c.args.lists.held.now) c.args.first in
    let cord = rw (c.node.ensures.result, c.figure.ensures.result, c.figure-in-loop-k.ensures.result, c.figure-in-loop-k-2.ensures.result) at c.put_cord-next.ensures.put in
    lines_next line c.args.count c.loop-k.k (omega arith) c.loop-k.invariant cord

pub returns : goal.returns
returns c = record { put = lines_last _ _ _ (omega arith) c.loop-k.invariant }
