-- What the calls of Read and Write return and leave, from what the functions that they call ensure.
use mathlib.Core.Path.{◌≡◌, refl, sym, ap, ◌∙◌}
use mathlib.Core.List.{List, [], ◌∷◌}
use Prim.Native.Nat.{ℕ, suc, ◌/◌, ◌≤◌, min}
use native.Mathlib.Omega.{arith}
use lib.ListN.{length, take}
use lib.Seq.{sets, take_all, take-nil}
use Rattle.outcomes.specs.Outcome.{after}
use Rattle.words.specs.Bytes.{words_of, bytes_of}
use Rattle.numbers.specs.Sheet.{sheet_of}
use Rattle.words.proofs.Bytes.{take-loaded}
use Rattle.calls.specs.Call.{answered, told_numbers, OutcomeCall}
use Rattle.calls.proofs.Calls.{call_done}
use Rattle.rooms.specs.Outcome.{SheetOutcome, answer_of, sheet_number, sheet_figure, sheet_refusal_number, sheet_refusal_place, reading, reading_first, writing}
use Rattle.rooms.specs.declared.SheetRefusal.{SheetRefusal}
use Rattle.std.specs.Prelude.{Result, Ok, Err}
use Rattle.std.specs.Result.{result_unwrap_or}
use Rattle.rooms.specs.Table.{most_words}
use Rattle.rooms.proofs.Outcomes.{refused_told}
use Rattle.rooms.proofs.Lent.{reading-first, reading_fits, Stands, first_stands, writing-cut}
use Rattle.sheet_bytes.specs.Call.{numbers_of, ReadCall, WriteCall}

-- ---- Both calls

-- The numbers that are told of an answer are its number and its figure.
told_is : (told : Result ℕ SheetRefusal) → told_numbers (λ count. count ∷ []) sheet_refusal_number sheet_refusal_place told ≡ sheet_number told ∷ sheet_figure told ∷ []
told_is (Ok count) = refl
told_is (Err refusal) = refl

-- An operation by way of lists of its own comes to the same outcome.
pub outcome_done : (output : List ℕ → List ℕ) (buffer answer : List ℕ) {outcome own : SheetOutcome} {told : Result ℕ SheetRefusal} {buffer' answer' : List ℕ}
    → own ≡ outcome → 16 ≤ length answer → told ≡ answer_of own → buffer' ≡ after output own buffer
    → answer' ≡ answered 2 (told_numbers (λ count. count ∷ []) sheet_refusal_number sheet_refusal_place told) answer
    → OutcomeCall 2 numbers_of output outcome buffer answer 1 buffer' answer'
outcome_done output buffer answer {outcome = outcome} {told = told} same long is o a =
    let is' : told ≡ answer_of outcome = is ∙ ap answer_of same in
    call_done (numbers_of outcome) answer _ (omega arith) (o ∙ ap (λ (x : SheetOutcome). after output x buffer) same)
    (a ∙ ap (λ (l : List ℕ). answered 2 l answer) (told_is told ∙ ap (λ (t : Result ℕ SheetRefusal). sheet_number t ∷ sheet_figure t ∷ []) is'))

-- ---- Read

-- Read by way of a list of words, which becomes `words'`: those that are accepted stand at its front.
module _ (sheet words table : List ℕ) {words' : List ℕ} {told : Result ℕ SheetRefusal} {count : ℕ}
    (is : told ≡ answer_of (reading_first (length words) sheet (length table / 4))) (w : words' ≡ sets words 0 (sheet_of sheet).words)
    (n : count ≡ result_unwrap_or told 0) where
  stands : (k : ℕ) → told ≡ Ok k → Stands sheet (length table / 4) words words' k
  stands k e = first_stands sheet (length table / 4) words (sym e ∙ is) w

  pub read_fits : count ≤ length words'
  read_fits = go told refl
    where
      go : (t : Result ℕ SheetRefusal) → told ≡ t → count ≤ length words'
      go (Ok k) e = let c : count ≡ k = n ∙ ap (λ (r : Result ℕ SheetRefusal). result_unwrap_or r 0) e in omega (arith, (stands k e).fits)
      go (Err q) e = let c : count ≡ 0 = n ∙ ap (λ (r : Result ℕ SheetRefusal). result_unwrap_or r 0) e in omega arith

  module _ (h : suc most_words ≤ length words) where
    abbrev own : SheetOutcome
    own = reading_first (length words) sheet (length table / 4)

    same-reading : own ≡ reading sheet (length table / 4)
    same-reading = reading-first sheet (length table / 4) (length words) h

    -- Just what is accepted is stored.
    read_stored : {table' : List ℕ} → table' ≡ sets table 0 (bytes_of (take (length table / 4) (take count words'))) → table' ≡ after bytes_of own table
    unfolding bytes_of
    read_stored {table' = table'} t = go told refl
      where
        go : (a : Result ℕ SheetRefusal) → told ≡ a → table' ≡ after bytes_of own table
        go (Ok k) e =
            let c : count ≡ k = n ∙ ap (λ (r : Result ℕ SheetRefusal). result_unwrap_or r 0) e in
            let all = take_all (length table / 4) (take k words') (reading_fits sheet (length table / 4) (sym same-reading ∙ (stands k e).is)) in
            t ∙ rw (c, (stands k e).is, all) refl
        go (Err q) e =
            let c : count ≡ 0 = n ∙ ap (λ (r : Result ℕ SheetRefusal). result_unwrap_or r 0) e in
            t ∙ rw (c, refused_told own (sym e ∙ is), take-nil {A = ℕ} (length table / 4)) refl

    pub read_done : (answer : List ℕ) {table' answer' : List ℕ} → 16 ≤ length answer
        → table' ≡ sets table 0 (bytes_of (take (length table / 4) (take count words')))
        → answer' ≡ answered 2 (told_numbers (λ count. count ∷ []) sheet_refusal_number sheet_refusal_place told) answer → ReadCall sheet table answer 1 table' answer'
    read_done answer long t = outcome_done bytes_of table answer same-reading long is (read_stored t)

-- ---- Write

-- Write by way of a list of words, which `load` makes `words'`.
module _ (table words : List ℕ) {count : ℕ} {words' : List ℕ} (n : count ≡ min (length table / 4) (length words)) (w : words' ≡ sets words 0 (words_of table)) where
  same-writing : (entries : ℕ) → suc most_words ≤ length words → writing (take count words') entries ≡ writing (words_of table) entries
  same-writing entries h = rw (take-loaded (length words) count table words words' refl n w) (writing-cut (words_of table) entries (length words) h)

  pub write_done : (sheet answer : List ℕ) {told : Result ℕ SheetRefusal} {sheet' answer' : List ℕ} → suc most_words ≤ length words → 16 ≤ length answer
      → told ≡ answer_of (writing (take count words') (length sheet)) → sheet' ≡ after (λ bytes. bytes) (writing (take count words') (length sheet)) sheet
      → answer' ≡ answered 2 (told_numbers (λ count. count ∷ []) sheet_refusal_number sheet_refusal_place told) answer → WriteCall table sheet answer 1 sheet' answer'
  write_done sheet answer h = outcome_done (λ bytes. bytes) sheet answer (same-writing (length sheet) h)
