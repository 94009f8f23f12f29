-- What a reading promises, however the text is cut into pieces. These are statements; each is proved in proofs/.
use Rattle.std.specs.Prelude.{◌≡◌, true, List, [], ◌∷◌, ◌++◌, ℕ, ◌≤◌, min, length, take}
use Rattle.std.proofs.lemmas.List.Edits.{sets}
use Rattle.demands.specs.Text.{most_lines, demands_of}
use Rattle.demands.specs.Reading.{HeldReading, held_reading, with, empty_line, fed, fed_pieces, finished, held_count, is_full}

-- The text that some pieces make up.
unfoldable pub joined : List (List ℕ) → List ℕ
joined [] = []
joined (piece ∷ rest) = piece ++ joined rest

-- The reading of a text in pieces, from the start into a given list, to the text's end.
abbrev pub read_into : List ℕ → List (List ℕ) → HeldReading
read_into list pieces = finished (fed_pieces (held_reading (with 0 empty_line) list) pieces)

-- However a text is cut into pieces:
-- the list gets the text's demands at its front, as many as fit, and is otherwise as it was;
-- the count says how many those are;
-- in a list of 513 words or more, the first words, so many, are the text's demands, whole;
-- and once 513 lines are read, nothing further makes a difference.
pub record ReadsDemands : Type 0 where
  pub list : (list : List ℕ) (pieces : List (List ℕ)) → (read_into list pieces).list ≡ sets list 0 (demands_of (joined pieces))
  pub count : (list : List ℕ) (pieces : List (List ℕ))
      → held_count (read_into list pieces) ≡ min (length (demands_of (joined pieces))) (length list)
  pub whole : (list : List ℕ) (pieces : List (List ℕ)) → most_lines ≤ length list
      → take (held_count (read_into list pieces)) (read_into list pieces).list ≡ demands_of (joined pieces)
  pub enough : (h : HeldReading) (piece : List ℕ) → is_full h.reading ≡ true
      → ((finished (fed h piece)).list ≡ h.list) × (held_count (finished (fed h piece)) ≡ held_count h)
