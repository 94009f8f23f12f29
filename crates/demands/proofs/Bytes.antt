-- Laws of a reading, byte by byte: the outcomes of each step, and one turn of the loop over a piece.
use mathlib.Core.Path.{◌≡◌, refl, ap, ◌∙◌}
use mathlib.Core.Bool.{true, false}
use mathlib.Core.List.{List, ◌∷◌}
use Prim.Native.Nat.{ℕ, ◌+◌, ◌≤◌, ◌<◌}
use native.Mathlib.Omega.{arith}
use native.Mathlib.Numerals.{add-one}
use borrow.Author.Tests.{lt-ltb, le-ltb, eq-eqb, ne_eqb}
use lib.ListN.{length, drop, get_or, set, drop_of_length-le}
use lib.Seq.{drop-cons}
use Rattle.demands.specs.Text.{newline}
use Rattle.demands.specs.Reading.{HeldReading, held_reading, with, empty_line, extended, line_demand, has_byte, space, closed, fed_byte, fed, finished}
use Rattle.demands.specs.declared.DemandReading.{DemandReading}

-- ---- the outcomes of a step

module _ (reading : DemandReading) (list : List ℕ) where
  -- A line that ends where there is space, and where there is none.
  pub closed_stores : reading.count < space list
      → closed (held_reading reading list) ≡ held_reading (with (reading.count + 1) empty_line) (set list reading.count (line_demand reading.line))
  unfolding closed
  closed_stores h = rw (lt-ltb _ _ h)

  pub closed_full : space list ≤ reading.count → closed (held_reading reading list) ≡ held_reading (with reading.count empty_line) list
  unfolding closed
  closed_full h = rw (le-ltb _ _ h)

  -- A newline, and any other byte.
  pub fed_byte-newline : (byte : ℕ) → byte ≡ newline → fed_byte (held_reading reading list) byte ≡ closed (held_reading reading list)
  unfolding fed_byte
  fed_byte-newline byte h = rw (eq-eqb _ _ h)

  pub fed_byte_other : (byte : ℕ) → (byte ≡ newline → ⊥)
      → fed_byte (held_reading reading list) byte ≡ held_reading (with reading.count (extended reading.line byte)) list
  unfolding fed_byte
  fed_byte_other byte h = rw (ne_eqb _ _ h)

  -- The end of the text, inside a line and at the start of one.
  pub finished_inside : has_byte reading.line ≡ true → finished (held_reading reading list) ≡ closed (held_reading reading list)
  unfolding finished
  finished_inside h = rw h

  pub finished_between : has_byte reading.line ≡ false → finished (held_reading reading list) ≡ held_reading reading list
  unfolding finished
  finished_between h = rw h

-- ---- the loop over a piece

-- What is left of the piece takes the reading where the whole piece takes it from the start.
pub record Going (h₀ : HeldReading) (piece : List ℕ) (h : HeldReading) (i : ℕ) : Type 0 where
  pub bound : i ≤ length piece
  pub same : fed h (drop i piece) ≡ fed h₀ piece

pub going_first : (h₀ : HeldReading) (piece : List ℕ) → Going h₀ piece h₀ 0
going_first h₀ piece = record { bound = omega arith; same = refl }

pub going_next : (h₀ : HeldReading) (piece : List ℕ) (h h' : HeldReading) (i : ℕ) → Going h₀ piece h i → i < length piece
    → h' ≡ fed_byte h (get_or piece i 0)
    → Going h₀ piece h' (i + 1)
unfolding fed
going_next h₀ piece h h' i g inside e =
    let split : drop i piece ≡ get_or piece i 0 ∷ drop (i + 1) piece = rw (add-one, drop-cons piece i 0) in
    record { bound = omega arith; same = ap (λ (x : HeldReading). fed x (drop (i + 1) piece)) e ∙ rw split at g.same }

pub going_last : (h₀ : HeldReading) (piece : List ℕ) (h : HeldReading) (i : ℕ) → Going h₀ piece h i → length piece ≤ i → h ≡ fed h₀ piece
unfolding fed
going_last h₀ piece h i g past = rw (drop_of_length-le piece past) at g.same
