-- Demands in decimal, one a line: what a text says.
use Rattle.std.specs.Prelude.{Bool, true, cond, ◌&&◌, List, [], ◌∷◌, map, ℕ, ◌+◌, ◌-◌, ◌*◌, eqb, leb, length, take}

-- The most lines that are read.
abbrev pub most_lines : ℕ
most_lines = 513

-- The most digits of a demand.
abbrev pub most_digits : ℕ
most_digits = 8

-- What a line counts as that isn't one to eight digits.
abbrev pub no_demand : ℕ
no_demand = 16777216

-- The byte that ends a line.
abbrev pub newline : ℕ
newline = 10

-- The lines with a byte put in front of the first.
unfoldable pub before : ℕ → List (List ℕ) → List (List ℕ)
before byte [] = (byte ∷ []) ∷ []
before byte (line ∷ rest) = (byte ∷ line) ∷ rest

-- The lines of a text, without their newlines; a last line needs none.
unfoldable pub lines : List ℕ → List (List ℕ)
unfolding before
lines [] = []
lines (byte ∷ text) = cond (eqb byte newline) ([] ∷ lines text) (before byte (lines text))

-- Whether a byte is one of the digits `0` to `9`.
abbrev pub is_digit : ℕ → Bool
is_digit byte = leb 48 byte && leb byte 57

unfoldable pub are_digits : List ℕ → Bool
are_digits [] = true
are_digits (byte ∷ line) = is_digit byte && are_digits line

-- The number that some digits give, after a number that those before them gave.
unfoldable pub number_after : ℕ → List ℕ → ℕ
number_after number [] = number
number_after number (byte ∷ line) = number_after (number * 10 + (byte - 48)) line

-- The demand of a line: one to eight digits are their number; any other line counts as 16,777,216.
unfoldable pub demand_of : List ℕ → ℕ
unfolding are_digits number_after
demand_of line = cond (leb 1 (length line) && (leb (length line) most_digits && are_digits line)) (number_after 0 line) no_demand

-- The demands of a text: those of its first 513 lines.
unfoldable pub demands_of : List ℕ → List ℕ
unfolding lines demand_of
demands_of text = take most_lines (map demand_of (lines text))
