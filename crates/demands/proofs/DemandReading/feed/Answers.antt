-- `DemandReading::feed` meets its contract: what is left of the piece always takes the reading where the whole piece does.
use native.Mathlib.Omega.{arith}
use Rattle.demands.proofs.Bytes.{going_first, going_next, going_last}
use Rattle.demands.proofs.DemandReading.feed.Goals as goal

pub loop-byte-init : goal.loop-byte-init
loop-byte-init c = going_first _ _

pub loop-byte-preserved : goal.loop-byte-preserved
loop-byte-preserved c = going_next _ _ _ _ _ c.loop-byte.invariant (omega arith) c.feed_byte-reading.ensures.fed

pub returns : goal.returns
returns c = record { fed = going_last _ _ _ _ c.loop-byte.invariant (omega arith) }
