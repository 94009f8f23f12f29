-- Words and numbers as bytes, low byte first.
--
-- A list of words passes through C as bytes, four to a word, and a number of an answer as eight.
-- A byte is a number below 256, and a word one below 2 ^ 32.
use Rattle.std.specs.Prelude.{cond, List, [], ◌∷◌, ◌++◌, ℕ, zero, suc, ◌+◌, ◌*◌, ◌/◌, ◌%◌, leb, length, get_or}
use Rattle.std.proofs.lemmas.List.Edits.{sets}

-- The low k bytes of a number, low byte first.
unfoldable pub little_endian : ℕ → ℕ → List ℕ
little_endian zero v = []
little_endian (suc k) v = v % 256 ∷ little_endian k (v / 256)

-- The word of four bytes, low byte first.
abbrev pub word : ℕ → ℕ → ℕ → ℕ → ℕ
word a b c d = a + 256 * b + 65536 * c + 16777216 * d

-- The word whose four bytes stand from a place on.
abbrev pub word_at : List ℕ → ℕ → ℕ
word_at bytes at = word (get_or bytes at 0) (get_or bytes (at + 1) 0) (get_or bytes (at + 2) 0) (get_or bytes (at + 3) 0)

-- The words of some bytes, four bytes a word; one to three bytes over belong to none.
unfoldable pub words_of : List ℕ → List ℕ
words_of [] = []
words_of (a ∷ []) = []
words_of (a ∷ b ∷ []) = []
words_of (a ∷ b ∷ c ∷ []) = []
words_of (a ∷ b ∷ c ∷ d ∷ bytes) = word a b c d ∷ words_of bytes

-- The bytes of some words, four bytes a word.
unfoldable pub bytes_of : List ℕ → List ℕ
bytes_of [] = []
bytes_of (w ∷ words) = little_endian 4 w ++ bytes_of words

-- Some bytes after a number is stored in eight of them, from a place on; or as they were where they do not reach so far.
unfoldable pub number_stored : ℕ → List ℕ → ℕ → List ℕ
number_stored number bytes at = cond (leb (at + 8) (length bytes)) (sets bytes at (little_endian 8 number)) bytes
