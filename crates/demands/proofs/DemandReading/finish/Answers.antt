-- `DemandReading::finish` meets its contract: a line that has a byte ends with the text.
use mathlib.Core.Path.{◌≡◌, sym, ap, ◌∙◌}
use Rattle.demands.specs.Reading.{HeldReading, held_reading, held_count, finished}
use Rattle.demands.proofs.Bytes.{finished_inside, finished_between}
use Rattle.demands.proofs.DemandReading.finish.Goals as goal
use Rattle.demands.proofs.DemandReading.finish.Goals.{then-has_byte, else-has_byte}

pub returns : goal.returns
returns c =
    let is : held_reading c.if-has_byte.last c.if-has_byte.list ≡ finished (held_reading c.args.self c.args.list.now) =
    elim c.if-has_byte.branch [
      | then-has_byte w ↦ rw (w.last-is, w.list-is) (w.close-last.ensures.closed ∙ sym (finished_inside c.args.self c.args.list.now (sym c.has_byte.ensures.result ∙ w.if-has_byte.true)))
      | else-has_byte w ↦ rw (w.last-is, w.list-is) (sym (finished_between c.args.self c.args.list.now (sym c.has_byte.ensures.result ∙ w.if-has_byte.false)))
    ] in
    record {
      list = ap (λ (h : HeldReading). h.list) is;
      count = c.min.ensures ∙ ap held_count is;
    }
