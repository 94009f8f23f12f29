-- `Tally::none` meets its contract: 1 / 0 is +∞.
use mathlib.Core.Path.{refl}
use lib.Ieee.{div, of_bits}
use Rattle.control.proofs.Tally.none.Goals as goal

pub returns : goal.returns
unfolding div of_bits
returns c = record { result = refl }
