-- What specs/Promises.antt states.
use mathlib.Core.Path.{ap, ◌∙◌}
use native.Mathlib.Omega.{arith}
use Rattle.schedules.specs.Schedule.{most_schedule_words}
use Rattle.schedules.proofs.Promises.{first_bytes_decide}
use Rattle.hutschedule.specs.Printed.{most_input, print_of, printed}
use Rattle.hutschedule.specs.Promises.{PrintsInput}

pub prints_input : PrintsInput
unfolding printed
prints_input input text count same = ap printed same ∙ ap print_of (first_bytes_decide most_input input most_schedule_words (omega arith))
