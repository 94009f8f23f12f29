-- What specs/Promises.antt states.
use Rattle.hutplan.specs.Printed.{printed}
use Rattle.hutplan.specs.Promises.{PrintsInput}

pub prints_input : PrintsInput
unfolding printed
prints_input file text sheet demands bytes count f t = rw (f, t)
