use Rattle.demands.specs.Reading.{held_reading}
use Rattle.demands.proofs.Bytes.{Going}
use Rattle.demands.proofs.DemandReading.feed.Given as goal

abbrev pub invariant-loop-byte : goal.invariant-loop-byte
invariant-loop-byte l = Going (held_reading l.initial.reading l.initial.list) l.piece (held_reading l.reading l.list) l.byte-index
