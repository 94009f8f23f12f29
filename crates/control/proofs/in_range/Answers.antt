-- `in_range` meets its contract: the tests of the lesser and the greater say what the four of both figures do.
use mathlib.Core.Path.{sym, ap, ◌∙◌}
use lib.Ieee.{Float, le, of_bits}
use Rattle.control.specs.Step.{float0, most_watts}
use Rattle.control.proofs.Tests.{and_true}
use Rattle.control.proofs.FloatChoice.{range_of_two}
use Rattle.control.proofs.in_range.Goals as goal

pub returns-then-lesser : goal.returns-then-lesser
unfolding of_bits
returns-then-lesser c =
    record {
      result =
          and_true (sym (ap (le float0) c.lesser.ensures.result) ∙ c.if-lesser.true) (ap (λ (x : Float). le x most_watts) c.greater.ensures.result)
          ∙ range_of_two float0 most_watts c.args.first c.args.second;
    }
