-- A law of tests.
use mathlib.Core.Path.{◌≡◌, refl}
use mathlib.Core.Bool.{Bool, true, false, ◌&&◌}

pub and_false : (t : Bool) → t && false ≡ false
and_false true = refl
and_false false = refl
