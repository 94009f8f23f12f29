-- The definitions computed at written-out texts.
use mathlib.Core.Path.{◌≡◌, refl}
use mathlib.Core.List.{[], ◌∷◌}
use Rattle.demands.specs.Text.{before, lines, are_digits, number_after, demand_of, demands_of}

-- A text with no byte has no line.
pub no_line : demands_of [] ≡ []
unfolding demands_of lines
no_line = refl

-- `40`, with and without a newline, is one line.
pub one_line : demands_of (52 ∷ 48 ∷ 10 ∷ []) ≡ 40 ∷ []
unfolding demands_of lines before demand_of are_digits number_after
one_line = refl

pub no_newline : demands_of (52 ∷ 48 ∷ []) ≡ 40 ∷ []
unfolding demands_of lines before demand_of are_digits number_after
no_newline = refl

-- Nine lines: `400`, an empty one, `007`, `12` and a carriage return, `-5`, a space and `7`, `123456789`, `99999999`, `1e3`.
pub odd_lines : demands_of
    (52 ∷ 48 ∷ 48 ∷ 10 ∷ 10 ∷ 48 ∷ 48 ∷ 55 ∷ 10 ∷ 49 ∷ 50 ∷ 13 ∷ 10 ∷ 45 ∷ 53 ∷ 10 ∷ 32 ∷ 55 ∷ 10
    ∷ 49 ∷ 50 ∷ 51 ∷ 52 ∷ 53 ∷ 54 ∷ 55 ∷ 56 ∷ 57 ∷ 10 ∷ 57 ∷ 57 ∷ 57 ∷ 57 ∷ 57 ∷ 57 ∷ 57 ∷ 57 ∷ 10 ∷ 49 ∷ 101 ∷ 51 ∷ [])
    ≡ 400 ∷ 16777216 ∷ 7 ∷ 16777216 ∷ 16777216 ∷ 16777216 ∷ 16777216 ∷ 99999999 ∷ 16777216 ∷ []
unfolding demands_of lines before demand_of are_digits number_after
odd_lines = refl
