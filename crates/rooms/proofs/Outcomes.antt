-- The outcomes of Read and Write in the code's terms: one law for each answer.
use mathlib.Core.Path.{◌≡◌, refl, sym, ap, ◌∙◌}
use mathlib.Core.Bool.{Bool, true, false, cond}
use mathlib.Core.List.{List}
use Prim.Native.Nat.{ℕ, ◌≤◌, ◌<◌, min}
use native.Mathlib.Nat.{suc-ne-zero}
use native.Mathlib.Omega.{arith}
use lib.ListN.{length, take}
use lib.Seq.{sets, length-sets, length-take-le}
use lib.Dec.{leb}
use borrow.Author.Tests.{leb-true, leb-false}
use Rattle.outcomes.specs.Outcome.{accepted, refused, fitting, after}
use Rattle.outcomes.proofs.Outcomes.{fitting_short, fitting_whole, fitting_is}
use Rattle.outcomes.proofs.Parts.{accepted_went}
use Rattle.figures.proofs.Stores.{take-sets, take_min}
use Rattle.numbers.specs.Sheet.{SheetEnding, whole, sheet_of, judged, answer, bytes_of, written, fitted}
use Rattle.numbers.specs.Sheet as sheet
use Rattle.std.specs.Prelude.{Result, Ok, Err}
use Rattle.numbers.specs.declared.BadNumber.{BadNumber as Bad}
use Rattle.numbers.specs.declared.Unwritten.{Unwritten}
use Rattle.numbers.specs.declared.Unwritten.TheVariants.{TooShort}
use Rattle.numbers.proofs.SheetLaws.{written_forms}
use Rattle.rooms.specs.Part.{Step, good, bad}
use Rattle.rooms.specs.Part as part
use Rattle.rooms.specs.Table.{Room}
use Rattle.rooms.specs.Limits.{checked}
use Rattle.rooms.specs.Told.{told}
use Rattle.rooms.specs.Outcome.{SheetOutcome, unwritten_refusal, answer_of, if_good, read_words, reading, reading_first, writing}
use Rattle.rooms.proofs.Reach.{words_small}
use Rattle.rooms.specs.declared.SheetRefusal.{SheetRefusal}
use Rattle.rooms.specs.declared.SheetRefusal.TheVariants.{BadNumber, OutputTooShort}

-- A step that is told as refused is refused so.
pub refused_so : {A : Type 0} (f : A → ℕ) (s : Step A) {q : SheetRefusal} → Err q ≡ told f s → s ≡ bad q
unfolding told
refused_so f (good a j) d = absurd (suc-ne-zero 0 (cc))
refused_so f (bad m) {q = q} d = let z : m ≡ q = cc in ap bad z

-- A refused operation leaves the list; an accepted one has written its output to the front.
pub refused_done : (outcome : SheetOutcome) (list : List ℕ) {q : SheetRefusal} → outcome ≡ refused q
    → (Err q ≡ answer_of outcome) × (list ≡ after (λ l. l) outcome list)
refused_done outcome list e = rw e (refl, refl)

pub accepted_done : (outcome : SheetOutcome) (list list' output : List ℕ) {count : ℕ} → outcome ≡ accepted output → length output ≡ count
    → list' ≡ sets list 0 output
    → (Ok count ≡ answer_of outcome) × (list' ≡ after (λ l. l) outcome list)
accepted_done outcome list list' output e n w = rw e (ap (λ (m : ℕ). Ok m) (sym n), w)

-- What an answer tells of its outcome: that it is refused so, or accepted with an output of so many entries.
pub refused_told : (outcome : SheetOutcome) {q : SheetRefusal} → Err q ≡ answer_of outcome → outcome ≡ refused q
refused_told (accepted output) d = absurd (suc-ne-zero 0 (cc))
refused_told (refused r) {q = q} d = let z : r ≡ q = cc in ap refused z

pub record Output (outcome : SheetOutcome) (count : ℕ) : Type 0 where
  pub output : List ℕ
  pub is : outcome ≡ accepted output
  pub counted : length output ≡ count

pub accepted_told : (outcome : SheetOutcome) {count : ℕ} → Ok count ≡ answer_of outcome → Output outcome count
accepted_told (accepted output) d = record { output = output; is = refl; counted = cc }
accepted_told (refused refusal) d = absurd (suc-ne-zero 0 (cc))

-- What is accepted after the check of a table: the table is good, and the output is what was due.
pub accepted_is : (step : Step Room) (output : List ℕ) (entries : ℕ) {given : List ℕ} → if_good step output entries ≡ accepted given → part.Good step × (output ≡ given)
accepted_is step output entries e =
    let went = accepted_went (λ q. q) (λ room. fitting OutputTooShort output entries) step e in
    (went.good_step, fitting_is OutputTooShort output entries went.is)

-- ---- Read

-- A list that takes what it can of some words has it at its front.
module _ (list words : List ℕ) {front : ℕ} (e : front ≡ min (length words) (length list)) where
  pub front-sets : take front (sets list 0 words) ≡ take (length list) words
  front-sets = take-sets front list words (omega arith) (omega arith) ∙ ap (λ (m : ℕ). take m words) e ∙ take_min (length list) words

  pub front_size : front ≡ length (take (length list) words)
  front_size = sym (ap length (sym front-sets) ∙ length-take-le front (sets list 0 words) (omega (arith, length-sets list 0 words)))

-- A sheet of so many good numbers.
pub record Whole (bytes : List ℕ) (count : ℕ) : Type 0 where
  pub ends : (sheet_of bytes).ending ≡ whole
  pub counted : length (sheet_of bytes).words ≡ count

module _ (bytes : List ℕ) where
  abbrev words : List ℕ
  words = (sheet_of bytes).words

  pub whole_so : {count : ℕ} → Ok count ≡ judged (sheet_of bytes) → Whole bytes count
  whole_so {count = count} d = go (sheet_of bytes).ending refl d
    where
      go : (ending : SheetEnding) → (sheet_of bytes).ending ≡ ending → Ok count ≡ answer (length words) ending → Whole bytes count
      go whole is d = let n : length words ≡ count = cc in record { ends = is; counted = n }
      go (sheet.refused f p) is d = absurd (suc-ne-zero 0 (cc))

  -- What an accepted Read says: the sheet is whole, and its words are a good table.
  pub record Read (table : List ℕ) : Type 0 where
    pub ends : (sheet_of bytes).ending ≡ whole
    pub words_are : words ≡ table
    pub checks : part.Good (checked table 0)

  module _ (entries : ℕ) where
    pub reading_is : {table : List ℕ} → reading bytes entries ≡ accepted table → Read table
    unfolding reading
    reading_is {table = table} e = go (sheet_of bytes).ending refl e
      where
        go : (ending : SheetEnding) → (sheet_of bytes).ending ≡ ending → read_words words ending entries ≡ accepted table → Read table
        go whole is e =
            let a = accepted_is (checked words 0) words entries e in
            record { ends = is; words_are = a.1; checks = rw a.1 at a.0 }
        go (sheet.refused f p) is e = absurd (suc-ne-zero 0 (cc))

-- The answer on a table whose words are to go to an output of so many.
module _ (table : List ℕ) (entries : ℕ) where
  abbrev outcome : SheetOutcome
  outcome = if_good (checked table 0) table entries

  pub table_refused : {q : SheetRefusal} → checked table 0 ≡ bad q → Err q ≡ answer_of outcome
  table_refused c = rw c refl

  pub table_short : {r : Room} {j : ℕ} → checked table 0 ≡ good r j → entries < length table → Err (OutputTooShort (length table)) ≡ answer_of outcome
  table_short c h = rw (c, fitting_short OutputTooShort table entries h) refl

  pub table_accepted : {r : Room} {j : ℕ} → checked table 0 ≡ good r j → length table ≤ entries → Ok (length table) ≡ answer_of outcome
  table_accepted c h = rw (c, fitting_whole OutputTooShort table entries h) refl

-- Read by way of a list, which becomes `list'`.
module _ (bytes list : List ℕ) (entries : ℕ) where
  pub first_bad_number : {b : Bad} → Err b ≡ judged (sheet_of bytes)
      → Err (BadNumber b.fault b.place) ≡ answer_of (reading_first (length list) bytes entries)
  unfolding reading_first
  first_bad_number {b = b} d = go (sheet_of bytes).ending d
    where
      go : (ending : SheetEnding) → Err b ≡ answer (length (words bytes)) ending
          → Err (BadNumber b.fault b.place) ≡ answer_of (read_words (take (length list) (words bytes)) ending entries)
      go whole d = absurd (suc-ne-zero 0 (cc))
      go (sheet.refused g q) d =
          let e : b ≡ record { fault = g; place = q } = cc in
          rw e refl

  pub first_answered : {count front : ℕ} {list' : List ℕ} {told : Result ℕ SheetRefusal} → Whole bytes count → list' ≡ sets list 0 (words bytes) → front ≡ min count (length list')
      → told ≡ answer_of (outcome (take front list') entries) → told ≡ answer_of (reading_first (length list) bytes entries)
  unfolding reading_first
  first_answered {front = front} {list' = list'} is e f a =
      let n : front ≡ min (length (words bytes)) (length list) = omega (arith, is.counted, ap length e ∙ length-sets list 0 (words bytes)) in
      let taken : take front list' ≡ take (length list) (words bytes) = rw e (front-sets list (words bytes) n) in
      a ∙ ap (λ (l : List ℕ). answer_of (outcome l entries)) taken ∙ rw is.ends

-- ---- Write

module _ (table : List ℕ) (entries : ℕ) where
  pub writing_refused : {q : SheetRefusal} → checked table 0 ≡ bad q → writing table entries ≡ refused q
  unfolding writing
  writing_refused c = rw c

  pub writing_is : {output : List ℕ} → writing table entries ≡ accepted output → part.Good (checked table 0) × (bytes_of table ≡ output)
  unfolding writing
  writing_is = accepted_is (checked table 0) (bytes_of table) entries

  module _ {r : Room} {j : ℕ} (c : checked table 0 ≡ good r j) where
    pub writing_good : writing table entries ≡ fitting OutputTooShort (bytes_of table) entries
    unfolding writing
    writing_good = rw c

    -- No word of a good table is too large, so that only the sheet's length decides.
    fits : {answer : Result ℕ Unwritten} → answer ≡ written table entries → answer ≡ fitted (length (bytes_of table)) entries
    fits e = e ∙ written_forms table entries (λ i. omega (arith, words_small table r j c i))

    pub writing_bytes : {count : ℕ} → Ok count ≡ written table entries
        → (writing table entries ≡ accepted (bytes_of table)) × (length (bytes_of table) ≡ count)
    writing_bytes {count = count} e = go (leb (length (bytes_of table)) entries) refl (fits e)
      where
        go : (t : Bool) → leb (length (bytes_of table)) entries ≡ t → Ok count ≡ cond t (Ok (length (bytes_of table))) (Err (TooShort (length (bytes_of table))))
            → (writing table entries ≡ accepted (bytes_of table)) × (length (bytes_of table) ≡ count)
        go true t a = (writing_good ∙ fitting_whole OutputTooShort (bytes_of table) entries (leb-true (length (bytes_of table)) entries t), cc)
        go false t a = absurd (suc-ne-zero 0 (cc))

    pub writing_unwritten : {why : Unwritten} → Err why ≡ written table entries → writing table entries ≡ refused (unwritten_refusal why)
    writing_unwritten {why = why} e = go (leb (length (bytes_of table)) entries) refl (fits e)
      where
        go : (t : Bool) → leb (length (bytes_of table)) entries ≡ t → Err why ≡ cond t (Ok (length (bytes_of table))) (Err (TooShort (length (bytes_of table))))
            → writing table entries ≡ refused (unwritten_refusal why)
        go true t a = absurd (suc-ne-zero 0 (cc))
        go false t a =
            let w : why ≡ TooShort (length (bytes_of table)) = cc in
            rw w (writing_good ∙ fitting_short OutputTooShort (bytes_of table) entries (leb-false (length (bytes_of table)) entries t))
