-- `is_size` meets its contract: the sizes from a place on decide, at every turn (`Searching`).
use Rattle.std.proofs.Common.{rules}
use Rattle.schedules.specs.Sizes.{sizes}
use Rattle.schedules.proofs.SizeLaws.{begin, again, stop, end}
use Rattle.schedules.proofs.sizes.is_size.Goals as goal

pub loop-size-init : goal.loop-size-init
loop-size-init c = begin _

pub returns-then-amperes-size : goal.returns-then-amperes-size
unfolding sizes
returns-then-amperes-size c = record { result = stop _ _ c.loop-size.invariant (search rules) c.if-amperes-size.true }

pub loop-size-preserved : goal.loop-size-preserved
unfolding sizes
loop-size-preserved c = again _ _ c.loop-size.invariant (search rules) c.if-amperes-size.false

pub returns : goal.returns
unfolding sizes
returns c = record { result = end _ _ c.loop-size.invariant (search rules) }
