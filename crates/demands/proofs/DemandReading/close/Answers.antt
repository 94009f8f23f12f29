-- `DemandReading::close` meets its contract: the line's demand is stored where there is space.
use mathlib.Core.Path.{sym}
use Rattle.demands.proofs.Bytes.{closed_stores, closed_full}
use borrow.Author.Rules.{rules}
use Rattle.demands.proofs.DemandReading.close.Goals as goal

pub returns-then-count-min : goal.returns-then-count-min
returns-then-count-min c =
    record {
      closed =
          let args = c.args in
          rw c.demand.ensures.result (sym (closed_stores args.self args.list.now (search rules)));
    }

pub returns-else-count-min : goal.returns-else-count-min
returns-else-count-min c =
    record {
      closed =
          let args = c.args in
          sym (closed_full args.self args.list.now (search rules));
    }
