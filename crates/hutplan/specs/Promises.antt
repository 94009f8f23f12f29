-- What the contract of `print_input` comes to. A statement; proofs/Promises.antt proves it, as `prints_input`.
use Rattle.std.specs.Prelude.{◌≡◌, List, ℕ, take}
use Rattle.demands.specs.Text.{demands_of}
use Rattle.hutplan.specs.Input.{most_bytes}
use Rattle.hutplan.specs.Printed.{input_text, printed}

-- Where the bytes that were read are the first 32,768 of a file, and the demands are those of a text, what is printed of
-- them is what `hutplan` prints of that file and that text.
abbrev pub PrintsInput : Type 0
PrintsInput = (file text sheet demands : List ℕ) (bytes count : ℕ)
    → take bytes sheet ≡ take most_bytes file → take count demands ≡ demands_of text
    → input_text sheet bytes demands count ≡ printed file text
