-- `DemandReading::feed_byte` meets its contract: a newline ends the line, and any other byte goes onto it.
use mathlib.Core.Path.{sym, ◌∙◌}
use Rattle.demands.proofs.Bytes.{fed_byte-newline, fed_byte_other}
use Rattle.demands.proofs.DemandReading.feed_byte.Goals as goal

pub returns-then-byte-eq10 : goal.returns-then-byte-eq10
returns-then-byte-eq10 c =
    record {
      fed =
          let args = c.args in
          c.close.ensures.closed
          ∙ sym (fed_byte-newline args.self args.list.now args.byte c.if-byte-eq10.true);
    }

pub returns : goal.returns
returns c =
    record {
      fed =
          let args = c.args in
          rw c.extend.ensures.result (sym (fed_byte_other args.self args.list.now args.byte c.if-byte-eq10.false));
    }
