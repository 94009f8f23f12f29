-- A text that is read byte by byte into a list: the state between bytes, and what each byte does to it.
--
-- These definitions hold for every state and every list. What they come to over a whole text, from
-- the first byte to the last, is the promise in `Promises`.
use Rattle.std.specs.Prelude.{Bool, true, cond, ◌&&◌, List, [], ◌∷◌, ℕ, ◌+◌, ◌-◌, ◌*◌, min, eqb, leb, ltb, length, set}
use Rattle.demands.specs.Text.{most_lines, most_digits, no_demand, newline, is_digit}
use Rattle.demands.specs.declared.DemandLine.{DemandLine}
use Rattle.demands.specs.declared.DemandLine.TheVariants.{Digits, Other}
use Rattle.demands.specs.declared.DemandReading.{DemandReading}

-- ---- The line that is open

-- A line with no byte.
abbrev pub empty_line : DemandLine
empty_line = Digits 0 0

-- A line with a byte more. (Fewer than eight digits always give a number below 10,000,000.)
abbrev pub extended : DemandLine → ℕ → DemandLine
extended (Digits count number) byte =
    cond (is_digit byte && (ltb count most_digits && ltb number 10000000)) (Digits (count + 1) (number * 10 + (byte - 48))) Other
extended Other byte = Other

-- Whether a line has a byte.
abbrev pub has_byte : DemandLine → Bool
has_byte (Digits count number) = leb 1 count
has_byte Other = true

-- The demand of a line.
abbrev pub line_demand : DemandLine → ℕ
line_demand (Digits count number) = cond (leb 1 count) number no_demand
line_demand Other = no_demand

-- ---- The reading and its list

-- A reading, beside the list that it fills.
pub record HeldReading : Type 0 where
  pub reading : DemandReading
  pub list : List ℕ

abbrev pub held_reading : DemandReading → List ℕ → HeldReading
held_reading reading list = record { reading = reading; list = list }

-- How many demands go into a list.
abbrev pub space : List ℕ → ℕ
space list = min most_lines (length list)

-- A reading with so many demands read and a line open.
abbrev pub with : ℕ → DemandLine → DemandReading
with count line = record { count = count; line = line }

-- The open line ends: its demand goes into the list, if there is space.
unfoldable pub closed : HeldReading → HeldReading
closed h =
    let count = h.reading.count in
    cond (ltb count (space h.list))
    (held_reading (with (count + 1) empty_line) (set h.list count (line_demand h.reading.line)))
    (held_reading (with count empty_line) h.list)

-- A byte is read.
unfoldable pub fed_byte : HeldReading → ℕ → HeldReading
unfolding closed
fed_byte h byte = cond (eqb byte newline) (closed h) (held_reading (with h.reading.count (extended h.reading.line byte)) h.list)

-- A piece of the text is read.
unfoldable pub fed : HeldReading → List ℕ → HeldReading
unfolding fed_byte
fed h [] = h
fed h (byte ∷ piece) = fed (fed_byte h byte) piece

-- The pieces of a text are read, one after the other.
unfoldable pub fed_pieces : HeldReading → List (List ℕ) → HeldReading
unfolding fed
fed_pieces h [] = h
fed_pieces h (piece ∷ rest) = fed_pieces (fed h piece) rest

-- The text is at its end, which ends the open line if that has a byte.
unfoldable pub finished : HeldReading → HeldReading
unfolding closed
finished h = cond (has_byte h.reading.line) (closed h) h

-- How many demands stand at the front of the list.
abbrev pub held_count : HeldReading → ℕ
held_count h = min h.reading.count (length h.list)

-- Whether 513 lines are read.
abbrev pub is_full : DemandReading → Bool
is_full reading = leb most_lines reading.count
