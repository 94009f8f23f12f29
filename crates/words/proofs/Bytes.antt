-- Laws of words and numbers as bytes.
use mathlib.Core.Path.{◌≡◌, refl, sym, ap, ◌∙◌}
use mathlib.Core.List.{List, [], ◌∷◌, ◌++◌, append_assoc, append-nil}
use Prim.Native.Nat.{ℕ, zero, suc, ◌+◌, ◌*◌, ◌/◌, ◌%◌, ◌^◌, ◌≤◌, ◌<◌, min}
use native.Mathlib.Omega.{arith}
use native.Mathlib.Numerals.{add-one}
use native.Mathlib.Nat.{suc-add}
use borrow.Author.Tests.{le-leb, lt-leb}
use lib.ListN.{length, get_or, take}
use lib.Seq.{sets, take-suc, length-take-le}
use Rattle.std.specs.Int.{to_le_bytes, w32, w64}
use Rattle.figures.specs.Bounds.{AllBelow}
use Rattle.words.specs.Bytes.{little_endian, word, word_at, words_of, bytes_of, number_stored}
use Rattle.figures.proofs.Stores.{sets-append, take-sets, take_min}
use Rattle.figures.proofs.Bounds.{nil_below, cons_below}

-- ---- length

pub length-little_endian : (k v : ℕ) → length (little_endian k v) ≡ k
unfolding little_endian
length-little_endian zero v = refl
length-little_endian (suc k) v = ap suc (length-little_endian k (v / 256))

pub length-words_of : (bytes : List ℕ) → length (words_of bytes) ≡ length bytes / 4
unfolding words_of
length-words_of [] = refl
length-words_of (a ∷ []) = refl
length-words_of (a ∷ b ∷ []) = refl
length-words_of (a ∷ b ∷ c ∷ []) = refl
length-words_of (a ∷ b ∷ c ∷ d ∷ bytes) = omega (arith, length-words_of bytes)

pub length-bytes_of : (words : List ℕ) → length (bytes_of words) ≡ 4 * length words
unfolding bytes_of little_endian
length-bytes_of [] = refl
length-bytes_of (w ∷ words) = omega (arith, length-bytes_of words)

-- ---- range

pub below_words_of : (bytes : List ℕ) → AllBelow 256 bytes → AllBelow (2 ^ 32) (words_of bytes)
unfolding words_of
below_words_of [] h = nil_below (2 ^ 32) (omega arith)
below_words_of (a ∷ []) h = nil_below (2 ^ 32) (omega arith)
below_words_of (a ∷ b ∷ []) h = nil_below (2 ^ 32) (omega arith)
below_words_of (a ∷ b ∷ c ∷ []) h = nil_below (2 ^ 32) (omega arith)
below_words_of (a ∷ b ∷ c ∷ d ∷ bytes) h =
    cons_below (2 ^ 32) (word a b c d) (words_of bytes) (omega (arith, h 0, h 1, h 2, h 3)) (below_words_of bytes (λ i. h (suc (suc (suc (suc i))))))

-- ---- one word, and round trip

-- The word at index i has its four bytes from 4 * i on.
pub get_or-words_of : (bytes : List ℕ) (i : ℕ) → i < length bytes / 4 → get_or (words_of bytes) i 0 ≡ word_at bytes (4 * i)
unfolding words_of
get_or-words_of [] i h = absurd (omega arith)
get_or-words_of (a ∷ []) i h = absurd (omega arith)
get_or-words_of (a ∷ b ∷ []) i h = absurd (omega arith)
get_or-words_of (a ∷ b ∷ c ∷ []) i h = absurd (omega arith)
get_or-words_of (a ∷ b ∷ c ∷ d ∷ bytes) zero h = refl
get_or-words_of (a ∷ b ∷ c ∷ d ∷ bytes) (suc i) h =
    let e : 4 * suc i ≡ suc (suc (suc (suc (4 * i)))) = omega arith in
    get_or-words_of bytes i (omega arith) ∙ simp (e, suc-add)

-- The four bytes of a word are that word.
pub word-little_endian : (w : ℕ) → w < 2 ^ 32 → word (w % 256) (w / 256 % 256) (w / 256 / 256 % 256) (w / 256 / 256 / 256 % 256) ≡ w
word-little_endian w h = omega arith

-- Words that are stored are read back.
pub words_of-bytes_of : (words : List ℕ) → AllBelow (2 ^ 32) words → words_of (bytes_of words) ≡ words
unfolding words_of bytes_of little_endian
words_of-bytes_of [] h = refl
words_of-bytes_of (w ∷ words) h = rw (word-little_endian w (h 0), words_of-bytes_of words (λ i. h (suc i)))

-- ---- the library's bytes of a number

pub to_le_bytes_4 : (n : ℕ) → to_le_bytes w32 n ≡ little_endian 4 n
unfolding little_endian
to_le_bytes_4 n =
    let two : n / 256 ^ 2 ≡ n / 256 / 256 = omega arith in
    let three : n / 256 ^ 3 ≡ n / 256 / 256 / 256 = omega arith in
    rw (two, three) refl

pub to_le_bytes_8 : (n : ℕ) → to_le_bytes w64 n ≡ little_endian 8 n
unfolding little_endian
to_le_bytes_8 n =
    let two : n / 256 ^ 2 ≡ n / 256 / 256 = omega arith in
    let three : n / 256 ^ 3 ≡ n / 256 / 256 / 256 = omega arith in
    let four : n / 256 ^ 4 ≡ n / 256 / 256 / 256 / 256 = omega arith in
    let five : n / 256 ^ 5 ≡ n / 256 / 256 / 256 / 256 / 256 = omega arith in
    let six : n / 256 ^ 6 ≡ n / 256 / 256 / 256 / 256 / 256 / 256 = omega arith in
    let seven : n / 256 ^ 7 ≡ n / 256 / 256 / 256 / 256 / 256 / 256 / 256 = omega arith in
    rw (two, three, four, five, six, seven) refl

-- ---- turns of loops

pub bytes_of-append : (v w : List ℕ) → bytes_of (v ++ w) ≡ bytes_of v ++ bytes_of w
unfolding bytes_of
bytes_of-append [] w = refl
bytes_of-append (x ∷ v) w = rw (bytes_of-append v w) (sym (append_assoc (little_endian 4 x) (bytes_of v) (bytes_of w)))

-- A turn of a loop that puts words: one more word behind those that are there.
pub sets-bytes_of_turn : (bytes words : List ℕ) (i : ℕ) → i < length words
    → sets (sets bytes 0 (bytes_of (take i words))) (4 * i) (little_endian 4 (get_or words i 0)) ≡ sets bytes 0 (bytes_of (take (i + 1) words))
unfolding bytes_of
sets-bytes_of_turn bytes words i h =
    let e : 0 + length (bytes_of (take i words)) ≡ 4 * i = omega (arith, length-bytes_of (take i words), length-take-le i words (omega arith)) in
    sym (rw (add-one, take-suc words i 0, bytes_of-append, sets-append, e, append-nil))

-- ---- what a caller of `load` has

-- After `load` into a list of k words, whatever it held, its first n words, n being the result, are the first k of the bytes.
pub take-loaded : (k n : ℕ) (bytes list list' : List ℕ) → length list ≡ k → n ≡ min (length bytes / 4) (length list) → list' ≡ sets list 0 (words_of bytes)
    → take n list' ≡ take k (words_of bytes)
take-loaded k n bytes list list' hk hn hl =
    let count : n ≡ min (length (words_of bytes)) k = omega (arith, length-words_of bytes) in
    rw hl (take-sets n list (words_of bytes) (omega arith) (omega arith) ∙ ap (λ (m : ℕ). take m (words_of bytes)) count ∙ take_min k (words_of bytes))

-- ---- a number at a place

module _ (number : ℕ) (bytes : List ℕ) (at : ℕ) where
  -- Bytes that do not reach so far are left alone.
  pub number_stored_short : length bytes < at + 8 → number_stored number bytes at ≡ bytes
  unfolding number_stored
  number_stored_short h = rw (lt-leb (at + 8) (length bytes) h)

  pub number_stored_whole : at + 8 ≤ length bytes → number_stored number bytes at ≡ sets bytes at (little_endian 8 number)
  unfolding number_stored
  number_stored_whole h = rw (le-leb (at + 8) (length bytes) h)
