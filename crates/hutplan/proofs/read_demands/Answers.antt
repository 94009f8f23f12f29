-- `read_demands` meets its contract: the pieces read so far always make up one text.
use Rattle.std.proofs.Common.{refl, ap, rules}
use Rattle.demands.specs.Reading.{held_reading, with, empty_line}
use Rattle.demands.specs.declared.DemandReading.{DemandReading}
use Rattle.hutplan.specs.Input.{FedPiece}
use Rattle.hutplan.proofs.Inputs.{fed_none, fed_more, read-text}
use Rattle.hutplan.proofs.read_demands.Goals as goal
use Rattle.hutplan.proofs.read_demands.Goals.{else-loop-test, then-loop-test+then-count-eq0}

pub loop-init : goal.loop-init
loop-init g c = (fed_none (ap (λ (r : DemandReading). held_reading r c.args.list.now) c.start-reading.ensures.result), refl)

pub loop-preserved : goal.loop-preserved
loop-preserved g c = (fed_more _ c.loop.invariant.0 c.feed-reading.ensures.fed, search rules)

pub returns-clause-text : goal.returns-clause-text
returns-clause-text g c =
    let one : FedPiece (held_reading (with 0 empty_line) c.args.list.now) (held_reading c.loop-test.reading c.loop-test.list) =
    elim c.loop-test.branch [
      | else-loop-test w ↦ rw (w.list-is, w.reading-is) c.loop.invariant.0
      | then-loop-test+then-count-eq0 w ↦ rw (w.list-is, w.reading-is) (fed_more _ c.loop.invariant.0 w.feed-reading.ensures.fed)
    ]
    in
    (read-text _ _ (search rules) one c.finish.ensures.list c.finish.ensures.count).0
