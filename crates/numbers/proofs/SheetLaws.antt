-- Laws of whole sheets: their sizes and ranges, and that reading and writing undo each other.
use mathlib.Core.Path.{◌≡◌, refl, ◌∙◌}
use mathlib.Core.List.{List, [], ◌∷◌, ◌++◌}
use Prim.Native.Nat.{ℕ, zero, suc, ◌+◌, ◌*◌, ◌^◌, ◌≤◌, ◌<◌}
use native.Mathlib.Omega.{arith}
use lib.ListN.{length, get_or, drop, length-append, length-drop}
use lib.Seq.{drop-append_seam, drop-cons}
use borrow.Author.Tests.{lt-ltb, le-ltb, le-leb, lt-leb}
use Rattle.figures.specs.Bounds.{AllBelow}
use Rattle.figures.proofs.Bounds.{cons_below, drop_below}
use Rattle.figures.proofs.Search.{none_below, below_none}
use Rattle.numbers.specs.Number.{Front, good, bad, number, form}
use Rattle.numbers.specs.Sheet.{whole, Sheet, onto, sheet_from, sheet_of, bytes_of, first_formless, fitted, written}
use Rattle.std.specs.Prelude.{Ok, Err}
use Rattle.numbers.specs.declared.Unwritten.TheVariants.{TooLarge, TooShort}
use Rattle.numbers.proofs.NumberLaws.{number-form, number_good, 1≤length_form, length_form≤4}

-- ---- the bytes of words

-- From an index on: the word there, then the others.
pub bytes_of-drop : (words : List ℕ) (index : ℕ) → index < length words
    → bytes_of (drop index words) ≡ form (get_or words index 0) ++ bytes_of (drop (suc index) words)
unfolding bytes_of
bytes_of-drop words index h = rw (drop-cons words index 0 h)

pub length-bytes_of≤ : (words : List ℕ) → length (bytes_of words) ≤ 4 * length words
unfolding bytes_of
length-bytes_of≤ [] = omega arith
length-bytes_of≤ (w ∷ words) = omega (arith, length-append (form w) (bytes_of words), length_form≤4 w, length-bytes_of≤ words)

-- ---- the words of bytes

pub sheet_from-end : (fuel at : ℕ) → sheet_from fuel at [] ≡ record { words = []; ending = whole }
unfolding sheet_from
sheet_from-end zero at = refl
sheet_from-end (suc fuel) at = refl

-- Where there is a byte, a number stands first.
pub sheet_from_some : (fuel at : ℕ) (bytes : List ℕ) → 0 < length bytes
    → sheet_from (suc fuel) at bytes ≡ onto at (number bytes) (λ size. sheet_from fuel (at + size) (drop size bytes))
unfolding sheet_from
sheet_from_some fuel at [] h = absurd (omega arith)
sheet_from_some fuel at (b ∷ bytes) h = refl

-- ---- what was written is read back

sheet_from-bytes_of : (fuel at : ℕ) (words : List ℕ) → length (bytes_of words) ≤ fuel → AllBelow (2 ^ 28) words
    → sheet_from fuel at (bytes_of words) ≡ record { words = words; ending = whole }
unfolding bytes_of
sheet_from-bytes_of fuel at [] h all = sheet_from-end fuel at
sheet_from-bytes_of zero at (w ∷ words) h all = absurd (omega (arith, length-append (form w) (bytes_of words), 1≤length_form w))
sheet_from-bytes_of (suc fuel) at (w ∷ words) h all =
    let l = length-append (form w) (bytes_of words) in
    let p = 1≤length_form w in
    sheet_from_some fuel at (form w ++ bytes_of words) (omega arith)
    ∙ rw (
      number-form w (bytes_of words) (all 0),
      drop-append_seam (form w) (bytes_of words),
      sheet_from-bytes_of fuel (at + length (form w)) words (omega arith) (λ i. all (suc i)),
    )

pub sheet_of-bytes_of : (words : List ℕ) → AllBelow (2 ^ 28) words → sheet_of (bytes_of words) ≡ record { words = words; ending = whole }
sheet_of-bytes_of words all = sheet_from-bytes_of (length (bytes_of words)) 0 words (omega arith) all

-- ---- what was read is written as it was

-- What the numbers of some bytes say of them.
record Read (bytes : List ℕ) (sheet : Sheet) : Type 0 where
  pub back : sheet.ending ≡ whole → bytes_of sheet.words ≡ bytes
  pub below : AllBelow (2 ^ 28) sheet.words

read_from : (fuel at : ℕ) (bytes : List ℕ) → length bytes ≤ fuel → AllBelow 256 bytes → Read bytes (sheet_from fuel at bytes)
unfolding sheet_from bytes_of
read_from zero at [] h all = record { back = λ e. refl; below = λ i. omega arith }
read_from zero at (b ∷ bytes) h all = absurd (omega arith)
read_from (suc fuel) at [] h all = record { back = λ e. refl; below = λ i. omega arith }
read_from (suc fuel) at (b ∷ bytes) h all =
    go (number (b ∷ bytes)) refl
    (λ n p. read_from fuel (at + n) (drop n (b ∷ bytes)) (omega (arith, length-drop n (b ∷ bytes))) (drop_below 256 (b ∷ bytes) n all))
  where
    go : (f : Front) → number (b ∷ bytes) ≡ f → ((n : ℕ) → 0 < n → Read (drop n (b ∷ bytes)) (sheet_from fuel (at + n) (drop n (b ∷ bytes))))
        → Read (b ∷ bytes) (onto at f (λ n. sheet_from fuel (at + n) (drop n (b ∷ bytes))))
    go (bad fault) e ih = record { back = λ d. (let z : ◌≡◌ {A = ℕ} 0 1 = cc in absurd (omega arith)); below = λ i. omega arith }
    go (good value size) e ih =
        let g = number_good (b ∷ bytes) value size all e in
        let r = ih size g.some in
        record {
          back = λ d. rw (r.back d) g.whole;
          below = cons_below (2 ^ 28) value (sheet_from fuel (at + size) (drop size (b ∷ bytes))).words g.bound r.below;
        }

pub bytes_of-sheet_of : (bytes : List ℕ) → AllBelow 256 bytes → (sheet_of bytes).ending ≡ whole → bytes_of (sheet_of bytes).words ≡ bytes
bytes_of-sheet_of bytes all = (read_from (length bytes) 0 bytes (omega arith) all).back

pub words_below : (bytes : List ℕ) → AllBelow 256 bytes → AllBelow (2 ^ 28) (sheet_of bytes).words
words_below bytes all = (read_from (length bytes) 0 bytes (omega arith) all).below

-- ---- the answer on words that are to be written

-- Where no word is too large, each has a form.
pub forms_below : (words : List ℕ) → length words ≤ first_formless words → AllBelow (2 ^ 28) words
forms_below words h = none_below (2 ^ 28) (omega arith) words h

-- Words that all have forms are written where there is space.
pub written_forms : (words : List ℕ) (space : ℕ) → AllBelow (2 ^ 28) words → written words space ≡ fitted (length (bytes_of words)) space
written_forms words space h = rw (le-ltb (first_formless words) (length words) (below_none (2 ^ 28) words h))

module _ (words : List ℕ) (space : ℕ) where
  pub written_large : first_formless words < length words → Err (TooLarge (first_formless words)) ≡ written words space
  written_large l = rw (lt-ltb (first_formless words) (length words) l)

  module _ (h : length words ≤ first_formless words) where
    pub written_short : space < length (bytes_of words) → Err (TooShort (length (bytes_of words))) ≡ written words space
    written_short l = rw (le-ltb (first_formless words) (length words) h, lt-leb (length (bytes_of words)) space l)

    pub written_whole : length (bytes_of words) ≤ space → Ok (length (bytes_of words)) ≡ written words space
    written_whole l = rw (le-ltb (first_formless words) (length words) h, le-leb (length (bytes_of words)) space l)
