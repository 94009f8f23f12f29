-- `servers_end` meets its contract: what is left of the servers starts at i.
use native.Mathlib.Omega.{arith}
use Rattle.part.proofs.AcrossLaws.{span_near, span_more, span_done}
use Rattle.part.proofs.sides.servers_end.Goals as goal

pub loop-preserved : goal.loop-preserved
loop-preserved c = (span_more _ _ c.server_span-i.ensures.is (omega (arith, c.loop-test.true)) c.loop.invariant.0, span_near _ _ _ _ c.server_span-i.ensures.none c.server_span-i.ensures.small c.loop.invariant.1)

pub returns : goal.returns
returns c = record { is = span_done _ _ (omega (arith, c.loop-test.false)) c.loop.invariant.0 }
