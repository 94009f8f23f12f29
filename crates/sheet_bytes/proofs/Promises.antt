-- The promises of Read and Write called from C, proved.
use mathlib.Core.Path.{◌≡◌, sym, ap, ◌∙◌}
use mathlib.Core.List.{List}
use Prim.Native.Nat.{ℕ, ◌*◌, ◌/◌, ◌^◌, ◌≤◌}
use native.Mathlib.Nat.{le_refl}
use native.Mathlib.Omega.{arith}
use lib.ListN.{length, take}
use lib.Seq.{sets, take-length}
use Rattle.figures.specs.Bounds.{AllBelow}
use Rattle.words.specs.Bytes.{words_of, bytes_of}
use Rattle.figures.proofs.Stores.{take-sets}
use Rattle.words.proofs.Bytes.{length-words_of, length-bytes_of, words_of-bytes_of}
use Rattle.numbers.specs.Sheet as sheets
use Rattle.numbers.proofs.SheetLaws.{length-bytes_of≤}
use Rattle.rooms.specs.Part.{Good}
use Rattle.rooms.specs.Table.{most_words}
use Rattle.rooms.specs.Limits.{checked}
use Rattle.outcomes.specs.Outcome.{accepted}
use Rattle.outcomes.proofs.Outcomes.{fitting_fits}
use Rattle.rooms.specs.Outcome.{reading, writing}
use Rattle.rooms.specs.declared.SheetRefusal.TheVariants.{OutputTooShort}
use Rattle.rooms.proofs.Reach.{length_small, words_small}
use Rattle.rooms.proofs.Outcomes.{reading_is, writing_is, writing_good}
use Rattle.rooms.proofs.Lent.{reading_fits}
use Rattle.rooms.proofs.Promises as rooms
use Rattle.sheet_bytes.specs.Promises.{SheetWritesBack, TableReadsBack}
use Rattle.sheet_bytes.proofs.RoundTrip.{bytes_of-words_of, wrote, accepted_so}

-- A good table has few words, each of 32 bits, and its sheet few bytes.
module _ (table : List ℕ) (g : Good (checked table 0)) where
  few_words : length table ≤ most_words
  few_words = length_small table g.value g.next g.is

  are_words : AllBelow (2 ^ 32) table
  are_words i = omega (arith, words_small table g.value g.next g.is i)

  few_bytes : length (sheets.bytes_of table) ≤ 4 * most_words
  few_bytes = omega (arith, length-bytes_of≤ table, few_words)

-- What was written to the front of a list stands there.
front : (list written : List ℕ) (n : ℕ) → n ≡ length written → length written ≤ length list → take n (sets list 0 written) ≡ written
front list written n e h = rw e (take-sets (length written) list written h (le_refl (length written)) ∙ take-length written)

-- What Write accepts fits the sheet.
writing_fits : (table : List ℕ) (entries : ℕ) {written : List ℕ} → writing table entries ≡ accepted written → length written ≤ entries
writing_fits table entries e =
    let g = writing_is table entries e in
    fitting_fits OutputTooShort (sheets.bytes_of table) entries (sym (writing_good table entries g.0.is) ∙ e)

pub sheet_writes_back : SheetWritesBack
sheet_writes_back sheet table answer r table' answer' words below read told copy answer₂ r₂ copy' answer₂' long long₂ write =
    let w = wrote bytes_of table answer (reading sheet (length table / 4)) read told in
    let got = w.written in
    let g = (reading_is sheet (length table / 4) w.is).checks in
    let few = few_words got g in
    let count : words ≡ length got = w.counted (omega arith) in
    let fits = reading_fits sheet (length table / 4) w.is in
    let stored : take (4 * words) table' ≡ bytes_of got =
    ap (take (4 * words)) w.left ∙ front table (bytes_of got) (4 * words) (omega (arith, length-bytes_of got)) (omega (arith, length-bytes_of got)) in
    let loaded : words_of (take (4 * words) table') ≡ got = ap words_of stored ∙ words_of-bytes_of got (are_words got g) in
    let back = rooms.sheet_writes_back sheet got (length table / 4) (length copy) below w.is long in
    let same = (writing_is got (length copy) back).1 in
    let short : length sheet ≤ 4 * most_words = rw (← same) (few_bytes got g) in
    accepted_so (λ l. l) copy answer₂ sheet (ap (λ (l : List ℕ). writing l (length copy)) loaded ∙ back) (omega arith) long₂ write

pub table_reads_back : TableReadsBack
table_reads_back table sheet answer r sheet' answer' bytes below write told copy answer₂ r₂ copy' answer₂' long long₂ read =
    let w = wrote (λ l. l) sheet answer (writing (words_of table) (length sheet)) write told in
    let got = w.written in
    let g = writing_is (words_of table) (length sheet) w.is in
    let short : length got ≤ 4 * most_words = rw (← g.1) (few_bytes (words_of table) g.0) in
    let count : bytes ≡ length got = w.counted (omega arith) in
    let stored : take bytes sheet' ≡ got = ap (take bytes) w.left ∙ front sheet got bytes count (writing_fits (words_of table) (length sheet) w.is) in
    let back = rooms.table_reads_back (words_of table) got (length sheet) (length copy / 4) w.is (omega (arith, length-words_of table)) in
    let few = few_words (words_of table) g.0 in
    let done = accepted_so bytes_of copy answer₂ (words_of table) (ap (λ (l : List ℕ). reading l (length copy / 4)) stored ∙ back) (omega arith) long₂ read in
    (rw (length-words_of table) at done.0, done.1 ∙ ap (sets copy 0) (bytes_of-words_of table below))
