-- What the contract of `print_input` comes to. A statement; proofs/Promises.antt proves it, as `prints_input`.
use Rattle.std.specs.Prelude.{◌≡◌, List, ℕ, take}
use Rattle.hutschedule.specs.Printed.{most_input, printed}

-- Where the bytes that were read are the first 7,710 of an input, or all of it, what is written of them is what is written of the
-- whole input.
abbrev pub PrintsInput : Type 0
PrintsInput = (input text : List ℕ) (count : ℕ) → take count text ≡ take most_input input → printed (take count text) ≡ printed input
