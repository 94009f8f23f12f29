-- The table of a schedule: how it comes to stand in a list, and what each answer says of the outcome.
use mathlib.Core.Path.{◌≡◌, refl, sym, ap, subst, ◌∙◌}
use mathlib.Core.Bool.{Bool, true, false, cond}
use mathlib.Core.List.{List, [], ◌∷◌, ◌++◌, map}
use Prim.Native.Nat.{ℕ, zero, suc, ◌+◌, ◌*◌, ◌/◌, ◌≤◌, ◌<◌}
use native.Mathlib.Omega.{arith}
use lib.ListN.{length, take, set, length-append, length-map}
use lib.Seq.{sets, set_comm, take_all, take-length}
use lib.Dec.{leb}
use Rattle.std.proofs.Common.{Result, Ok, Err}
use Rattle.std.specs.Result.{result_unwrap_or}
use borrow.Author.Tests.{ltb-false, eq-eqb, ne_eqb}
use Rattle.words.specs.Bytes.{bytes_of}
use Rattle.figures.proofs.Stores.{take-sets, sets-append}
use Rattle.calls.specs.Call.{answered, told_numbers, OutcomeCall}
use Rattle.calls.proofs.Calls.{call_done}
use Rattle.calls.proofs.Fronts.{bytes_after}
use Rattle.rooms.specs.Table.{most_nodes, form_of}
use Rattle.rooms.specs.Words.{row_words, words_of_node}
use Rattle.schedules.specs.Text.{line}
use Rattle.outcomes.specs.Outcome.{accepted, refused, too_short, fitting}
use Rattle.outcomes.proofs.Outcomes.{unless_stop, unless_pass, unless_either, unless_none, fitting_short, fitting_whole}
use Rattle.schedules.specs.Text.{good, bad}
use Rattle.schedules.specs.Schedule.{Judgement, judged, ScheduleEnding, whole, stopped, onto, lines_from, lines_of, rating, node_of, table_of, ScheduleOutcome, no_lines, scheduled_lines, scheduling, answer_of, schedule_refusal_number, schedule_refusal_place, schedule_number, schedule_figure, most_schedule_words}
use Rattle.schedules.specs.Nodes.{entry_words}
use Rattle.schedules.specs.Call.{numbers_of}
use Rattle.schedules.specs.Told.{counted, told_lines, written, InFront}
use Rattle.schedules.proofs.LineLaws.{passed_is, range_is}
use Rattle.schedules.specs.declared.Entry.{Entry}
use Rattle.schedules.specs.declared.ScheduleRefusal.{ScheduleRefusal}
use Rattle.schedules.specs.declared.ScheduleRefusal.TheVariants.{OutOfRange, TableTooShort}

-- ---- Lengths

pub length-entry_words : (entries : List Entry) → length (entry_words entries) ≡ 2 * length entries
unfolding entry_words
length-entry_words [] = refl
length-entry_words (e ∷ rest) = omega (arith, length-entry_words rest)

-- The words of the entries are those of their nodes.
nodes_words : (entries : List Entry) → entry_words entries ≡ row_words (words_of_node false) (map node_of entries)
unfolding entry_words row_words
nodes_words [] = refl
nodes_words (e ∷ rest) = ap (λ (z : List ℕ). e.parent ∷ rating e ∷ z) (nodes_words rest)

-- The table has its nodes' words, with version and counts around them.
table_words : (entries : List Entry) → table_of entries ≡ 1 ∷ length entries ∷ (entry_words entries ++ (0 ∷ []))
unfolding form_of row_words
table_words entries = rw (nodes_words entries, length-map entries node_of)

pub length-table_of : (entries : List Entry) → length (table_of entries) ≡ 3 + 2 * length entries
length-table_of entries =
    ap length (table_words entries) ∙ omega (arith, length-append (entry_words entries) (0 ∷ []), length-entry_words entries)

-- No more than 512 lines pass.
few_from : (most : ℕ) (text : List ℕ) (place at : ℕ) → place ≤ most_nodes → place + length (lines_from most text place at).entries ≤ most_nodes
unfolding lines_from
few_from zero text place at h = omega arith
few_from (suc most) text place at h = go (leb (length text) at) (judged place (line text at)) refl (λ next k. few_from most text (suc place) next k)
  where
    go : (t : Bool) (j : Judgement) → judged place (line text at) ≡ j
        → ((next : ℕ) → suc place ≤ most_nodes → suc place + length (lines_from most text (suc place) next).entries ≤ most_nodes)
        → place + length (cond t (record { entries = []; ending = whole }) (onto j (λ next. lines_from most text (suc place) next))).entries ≤ most_nodes
    go true j e further = omega arith
    go false (good x next) e further =
        let few = (range_is place x (passed_is place (line text at) x next e).range).few in
        omega (arith, further next few)
    go false (bad q) e further = omega arith

pub few_entries : (text : List ℕ) → length (lines_of text).entries ≤ most_nodes
few_entries text = omega (arith, few_from (suc most_nodes) text 0 0 (omega arith))

-- ---- The table, stored

-- A store in front of a run of stores may come before it.
set_before : (l : List ℕ) (i : ℕ) (t : List ℕ) (j v : ℕ) → j < i → set (sets l i t) j v ≡ sets (set l j v) i t
set_before l i [] j v h = refl
set_before l i (a ∷ t) j v h = set_before (set l i a) (suc i) t j v (omega arith) ∙ ap (λ (x : List ℕ). sets x (suc i) t) (set_comm l i j a v (λ e. omega arith))

-- The words of the nodes, then version and counts around them, are the table.
table-sets : (words : List ℕ) (entries : List Entry) (count : ℕ) → length entries ≡ count
    → set (set (set (sets words 2 (entry_words entries)) 0 1) 1 count) (2 + 2 * count) 0 ≡ sets words 0 (table_of entries)
table-sets words entries count n =
    let ns = entry_words entries in
    let place : 2 + length ns ≡ 2 + 2 * count = omega (arith, length-entry_words entries) in
    let front : set (set (sets words 2 ns) 0 1) 1 count ≡ sets (set (set words 0 1) 1 count) 2 ns =
    ap (λ (x : List ℕ). set x 1 count) (set_before words 2 ns 0 1 (omega arith)) ∙ set_before (set words 0 1) 2 ns 1 count (omega arith) in
    ap (λ (x : List ℕ). set x (2 + 2 * count) 0) front
    ∙ sym (rw (table_words entries, n) (sets-append (set (set words 0 1) 1 count) 2 ns (0 ∷ []) ∙ ap (λ (i : ℕ). set (sets (set (set words 0 1) 1 count) 2 ns) i 0) place))

-- ---- What the answer on the lines says of the outcome

pub record Whole (text : List ℕ) (count : ℕ) : Type 0 where
  pub ends : (lines_of text).ending ≡ whole
  pub counts : length (lines_of text).entries ≡ count

pub whole_so : (text : List ℕ) {count : ℕ} → Ok count ≡ told_lines (lines_of text) → Whole text count
whole_so text {count = count} d = go (lines_of text).ending refl d
  where
    go : (ending : ScheduleEnding) → (lines_of text).ending ≡ ending → Ok count ≡ counted (length (lines_of text).entries) ending → Whole text count
    go whole is d = let n : length (lines_of text).entries ≡ count = cc in record { ends = is; counts = n }
    go (stopped q) is d = cc

pub whole_few : {text : List ℕ} {count : ℕ} → Whole text count → count ≤ most_nodes
whole_few {text = text} w = omega (arith, few_entries text, w.counts)

module _ (text : List ℕ) (space : ℕ) where
  abbrev outcome : ScheduleOutcome
  outcome = scheduling text space

  abbrev entries : List Entry
  entries = (lines_of text).entries

  -- A refused schedule has nothing in front.
  refused_done : (words : List ℕ) {q : ScheduleRefusal} → outcome ≡ refused q → (Err q ≡ answer_of outcome) × InFront outcome words
  refused_done words e = rw e (refl, record { is = refl })

  pub line_refused : (words : List ℕ) {q : ScheduleRefusal} → Err q ≡ told_lines (lines_of text) → (Err q ≡ answer_of outcome) × InFront outcome words
  unfolding scheduling
  line_refused words {q = q} d = refused_done words (go (lines_of text).ending d)
    where
      go : (ending : ScheduleEnding) → Err q ≡ counted (length (lines_of text).entries) ending → scheduled_lines (lines_of text).entries ending space ≡ refused q
      go whole d = cc
      go (stopped p) d = let a : p ≡ q = cc in rw a

  module _ {count : ℕ} (w : Whole text count) where
    pub lines_none : (words : List ℕ) → count ≡ 0 → (Err (OutOfRange 0) ≡ answer_of outcome) × InFront outcome words
    unfolding scheduling
    lines_none words z = refused_done words (rw w.ends (unless_stop (no_lines entries) _ (table_of entries) (eq-eqb (length entries) 0 (w.counts ∙ z))))

    module _ (some : count ≡ 0 → ⊥) where
      fitted : outcome ≡ fitting TableTooShort (table_of entries) space
      unfolding scheduling
      fitted = rw w.ends (unless_pass (no_lines entries) _ (table_of entries) (ne_eqb (length entries) 0 (λ z. some (sym w.counts ∙ z))))

      pub list_short : (words : List ℕ) → space ≤ 2 + 2 * count → (Err (TableTooShort (2 + 2 * count + 1)) ≡ answer_of outcome) × InFront outcome words
      list_short words h =
          let n : length (table_of (lines_of text).entries) ≡ 2 + 2 * count + 1 = omega (arith, length-table_of (lines_of text).entries, w.counts) in
          refused_done words (fitted ∙ fitting_short TableTooShort (table_of entries) space (omega arith) ∙ ap (λ (k : ℕ). refused (TableTooShort k)) n)

      -- The words of an accepted table, stored around those of the nodes.
      pub stands : (words words₁ : List ℕ) → most_schedule_words ≤ length words → words₁ ≡ sets words 2 (entry_words (lines_of text).entries) → 2 + 2 * count < space
          → (Ok (2 + 2 * count + 1) ≡ answer_of outcome) × InFront outcome (set (set (set words₁ 0 1) 1 count) (2 + 2 * count) 0)
      stands words words₁ long s h =
          let table = table_of (lines_of text).entries in
          let n : length table ≡ 2 + 2 * count + 1 = omega (arith, length-table_of (lines_of text).entries, w.counts) in
          let is : outcome ≡ accepted table = fitted ∙ fitting_whole TableTooShort table space (omega arith) in
          let front : take (length table) (sets words 0 table) ≡ table =
          take-sets (length table) words table (omega (arith, whole_few w)) (omega arith) ∙ take-length table in
          rw (is, s, table-sets words (lines_of text).entries count w.counts) (ap (λ (k : ℕ). Ok k) (sym n), record { is = front })

-- ---- What is written

-- The table, where there is one, fits.
abbrev Fits : ℕ → ScheduleOutcome → Type 0
Fits space o = length (written o) ≤ space

pub written_fits : (text : List ℕ) (space : ℕ) → length (written (scheduling text space)) ≤ space
unfolding scheduling
written_fits text space = go (lines_of text).ending
  where
    go : (ending : ScheduleEnding) → length (written (scheduled_lines (lines_of text).entries ending space)) ≤ space
    go whole =
        let table = table_of (lines_of text).entries in
        unless_either (no_lines (lines_of text).entries) _ table (Fits space) (λ _. omega arith) (λ _.
        unless_either (too_short TableTooShort space (length table)) [] table (Fits space) (λ _. omega arith) (λ h.
        subst (Fits space) (sym (unless_none table)) (ltb-false space (length table) h)))
    go (stopped q) = omega arith

-- The numbers that are told of an answer are its number and its figure.
numbers_told : (r : Result ℕ ScheduleRefusal)
    → told_numbers (λ count. count ∷ []) schedule_refusal_number schedule_refusal_place r ≡ schedule_number r ∷ schedule_figure r ∷ []
numbers_told (Ok count) = refl
numbers_told (Err refusal) = refl

-- An accepted table, stored in bytes, with the answer.
pub stored : (outcome : ScheduleOutcome) (told : Result ℕ ScheduleRefusal) {count : ℕ} {words : List ℕ} (table answer : List ℕ) {table' answer' : List ℕ}
    → told ≡ answer_of outcome → InFront outcome words → count ≡ result_unwrap_or told 0 → length (written outcome) ≤ length table / 4 → 16 ≤ length answer
    → table' ≡ sets table 0 (bytes_of (take (length table / 4) (take count words)))
    → answer' ≡ answered 2 (told_numbers (λ count. count ∷ []) schedule_refusal_number schedule_refusal_place told) answer
    → OutcomeCall 2 numbers_of bytes_of outcome table answer 1 table' answer'
stored outcome told {count} {words} table answer is front n fits long s a =
    let taken : take count words ≡ written outcome = rw (n, is) (go outcome front.is) in
    let all : take (length table / 4) (take count words) ≡ written outcome = ap (take (length table / 4)) taken ∙ take_all (length table / 4) (written outcome) fits in
    call_done _ answer _ (omega arith) (s ∙ ap (λ (l : List ℕ). sets table 0 (bytes_of l)) all ∙ bytes_after (λ words. words) outcome table)
    (rw (numbers_told told, is) at a)
  where
    go : (o : ScheduleOutcome) → take (length (written o)) words ≡ written o → take (result_unwrap_or (answer_of o) 0) words ≡ written o
    go (accepted table) e = e
    go (refused q) e = e
