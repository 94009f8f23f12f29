-- The text of a schedule, line by line: three numbers in decimal (the parent, the amperes, the volts) with a space between two of
-- them, and a newline behind the last. No number begins with a zero that it could do without.
use Rattle.std.specs.Prelude.{Bool, cond, ◌&&◌, List, ℕ, zero, suc, ◌+◌, ◌-◌, ◌*◌, eqb, leb, get_or}
use Rattle.outcomes.specs.Part as outcomes
pub use Rattle.outcomes.specs.Part.{good, bad, ◌>>=◌, give}
unfoldable pub use Rattle.outcomes.specs.Part.{follow}
use Rattle.schedules.specs.declared.Entry.{Entry}

-- The byte at a place. Past its end a text counts as bytes of 0, which stand in no line.
abbrev pub byte_at : List ℕ → ℕ → ℕ
byte_at text at = get_or text at 0

-- The one refusal of a part of a text: it is not of the form.
pub data Malformed : Type 0 where
  malformed : Malformed

-- What a part of a text comes to, with the place after it, and a part of a text.
abbrev pub Step : Type 0 → Type 0
Step A = outcomes.Step Malformed A

abbrev pub Part : Type 0 → Type 0
Part A = outcomes.Part Malformed A

-- ---- Bytes and numbers

-- The byte that parts two numbers, the byte that ends a line, and the digit `0`.
abbrev pub space : ℕ
space = 32

abbrev pub newline : ℕ
newline = 10

abbrev pub digit_zero : ℕ
digit_zero = 48

-- Whether a byte is one of the digits `0` to `9`.
abbrev pub is_digit : ℕ → Bool
is_digit byte = leb digit_zero byte && leb byte 57

-- The next byte, which must be this one.
unfoldable pub byte : ℕ → Part ℕ
byte b text at = cond (eqb (byte_at text at) b) (good b (suc at)) (bad malformed)

-- A number by the digits that come next, at most so many, after a value that those before them gave.
unfoldable pub digits : ℕ → ℕ → Part ℕ
digits zero value text at = good value at
digits (suc most) value text at =
    cond (is_digit (byte_at text at)) (digits most (value * 10 + (byte_at text at - digit_zero)) text (suc at)) (good value at)

-- The most digits of a number: none is above 9,999.
abbrev pub most_digits : ℕ
most_digits = 4

-- A number: `0`, or at most four digits of which the first is another. A digit that stands after these is part of no number,
-- and the line is not of the form.
unfoldable pub number : Part ℕ
number text at =
    cond (eqb (byte_at text at) digit_zero) (good 0 (suc at))
    (cond (is_digit (byte_at text at)) (digits most_digits 0 text at) (bad malformed))

-- A number and the byte behind it.
unfoldable pub field : ℕ → Part ℕ
field end = do
  value ← number
  _ ← byte end
  give value

-- A line.
unfoldable pub line : Part Entry
line = do
  parent ← field space
  amperes ← field space
  volts ← field newline
  give (record { parent = parent; amperes = amperes; volts = volts })
