-- The definitions computed at written-out bytes.
use mathlib.Core.Path.{◌≡◌, refl}
use mathlib.Core.List.{[], ◌∷◌}
use Rattle.words.specs.Bytes.{little_endian, word, words_of, bytes_of}

-- The low byte comes first.
pub low-byte_first : word 0x78 0x56 0x34 0x12 ≡ 0x12345678
low-byte_first = refl

-- Seven bytes are one word; three are over.
pub seven_bytes : words_of (1 ∷ 2 ∷ 0 ∷ 0 ∷ 3 ∷ 0 ∷ 0 ∷ []) ≡ 513 ∷ []
unfolding words_of
seven_bytes = refl

-- Two words are eight bytes.
pub two_words : bytes_of (0x12345678 ∷ 21 ∷ []) ≡ 0x78 ∷ 0x56 ∷ 0x34 ∷ 0x12 ∷ 21 ∷ 0 ∷ 0 ∷ 0 ∷ []
unfolding bytes_of little_endian
two_words = refl
