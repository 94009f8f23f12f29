-- The definitions computed at written-out bytes.
use mathlib.Core.Path.{◌≡◌, refl}
use mathlib.Core.List.{[], ◌∷◌}
use Rattle.words.specs.Bytes.{little_endian}
use Rattle.calls.specs.Call.{answer_bytes, holds_answer, answered}

-- Number 9 with figure 2 is sixteen bytes.
pub nine-at-two : answer_bytes (9 ∷ 2 ∷ []) ≡ 9 ∷ 0 ∷ 0 ∷ 0 ∷ 0 ∷ 0 ∷ 0 ∷ 0 ∷ 2 ∷ 0 ∷ 0 ∷ 0 ∷ 0 ∷ 0 ∷ 0 ∷ 0 ∷ []
unfolding answer_bytes little_endian
nine-at-two = refl

-- A buffer of one byte is left alone.
pub one_byte : answered 2 (9 ∷ 2 ∷ []) (7 ∷ []) ≡ 7 ∷ []
unfolding answered holds_answer
one_byte = refl
