-- What is written of each answer, and of what is read.
use mathlib.Core.Path.{◌≡◌, refl, sym, ap, ◌∙◌}
use mathlib.Core.Bool.{true, false}
use mathlib.Core.List.{List, [], ◌∷◌}
use Prim.Native.Nat.{ℕ, ◌*◌, ◌≤◌}
use Rattle.std.proofs.Common.{Result, Ok, Err, is_ok}
use native.Mathlib.Omega.{arith}
use lib.ListN.{length, take, length-append}
use lib.Seq.{sets, length-sets, take-length, length-take-le}
use Rattle.io.specs.Counts.{IsPrefixLen}
use Rattle.figures.proofs.Stores.{take-sets}
use Rattle.numbers.specs.Number.{form}
use Rattle.numbers.specs.Sheet.{bytes_of}
use Rattle.numbers.proofs.NumberLaws.{length_form≤4}
use Rattle.rooms.specs.Outcome.{writing}
use Rattle.rooms.specs.Outcome as rooms
use Rattle.rooms.specs.declared.SheetRefusal.{SheetRefusal}
use Rattle.print.specs.Line.{refused_line, Put}
use Rattle.print.proofs.Putting.{put_whole}
use Rattle.print.proofs.Size.{length-refused_line}
use Rattle.outcomes.specs.Outcome.{accepted, refused, after}
use Rattle.schedules.specs.Schedule.{ScheduleOutcome, most_schedule_words, schedule_refusal_number, schedule_refusal_place, scheduling, answer_of}
use Rattle.schedules.proofs.TableLaws.{written_fits}
use Rattle.schedules.proofs.Promises.{schedule_gives_room}
use Rattle.schedules.specs.declared.ScheduleRefusal.{ScheduleRefusal}
use Rattle.hutschedule.specs.Printed.{most_output, printed}

-- A sheet has at most four bytes a word.
length-bytes_of : (words : List ℕ) → length (bytes_of words) ≤ 4 * length words
unfolding bytes_of
length-bytes_of [] = omega arith
length-bytes_of (w ∷ words) = omega (arith, length-append (form w) (bytes_of words), length_form≤4 w, length-bytes_of words)

-- ---- Refused

refused_so : (outcome : ScheduleOutcome) {refusal : ScheduleRefusal} → Err refusal ≡ answer_of outcome → outcome ≡ refused refusal
refused_so (accepted table) e = absurd (cc)
refused_so (refused q) {refusal = refusal} e = let a : q ≡ refusal = cc in rw a

pub text_refused : (text buffer : List ℕ) {buffer' : List ℕ} {words length' : ℕ} {refusal : ScheduleRefusal} → words ≡ most_schedule_words → most_output ≤ length buffer
    → Err refusal ≡ answer_of (scheduling text words) → Put buffer 0 buffer' length' (refused_line (schedule_refusal_number refusal) (schedule_refusal_place refusal))
    → record { refused = true; bytes = take length' buffer' } ≡ printed text
unfolding printed
text_refused text buffer {refusal = refusal} n long r p =
    let is : scheduling text most_schedule_words ≡ refused refusal = rw n at (refused_so (scheduling text _) r) in
    rw (is, put_whole p (omega (arith, length-refused_line (schedule_refusal_number refusal) (schedule_refusal_place refusal))))

-- ---- Accepted

-- What is accepted stands at the front of the list.
pub record Stands (text list : List ℕ) (count : ℕ) : Type 0 where
  pub is : scheduling text most_schedule_words ≡ accepted (take count list)
  pub fits : count ≤ length list

pub stands : (text list : List ℕ) {list' : List ℕ} {count : ℕ} → length list ≡ most_schedule_words → Ok count ≡ answer_of (scheduling text (length list))
    → list' ≡ after (λ words. words) (scheduling text (length list)) list → Stands text list' count
stands text list {list'} {count} n a e = go (scheduling text most_schedule_words) refl (rw n at a) (rw n at e)
  where
    go : (o : ScheduleOutcome) → scheduling text most_schedule_words ≡ o → Ok count ≡ answer_of o → list' ≡ after (λ words. words) o list → Stands text list' count
    go (accepted table) s a e =
        let c : count ≡ length table = cc in
        let short : length table ≤ most_schedule_words = rw s at (written_fits text most_schedule_words) in
        let front : take count list' ≡ table = rw (c, e) (take-sets (length table) list table (omega arith) (omega arith) ∙ take-length table) in
        record { is = s ∙ ap accepted (sym front); fits = omega (arith, ap length e ∙ length-sets list 0 table) }
    go (refused q) s a e = absurd (cc)

-- Its sheet is written.
module _ (text list buffer : List ℕ) {count : ℕ} {told : Result ℕ SheetRefusal} (s : Stands text list count) (long : most_output ≤ length buffer)
    (t : told ≡ rooms.answer_of (writing (take count list) (length buffer))) where
  abbrev sheet : List ℕ
  sheet = bytes_of (take count list)

  fits : length sheet ≤ length buffer
  fits =
      let words : length (take count list) ≤ most_schedule_words = rw s.is at (written_fits text most_schedule_words) in
      omega (arith, length-bytes_of (take count list))

  writes : writing (take count list) (length buffer) ≡ accepted sheet
  writes = (schedule_gives_room text (take count list) most_schedule_words s.is).writes (length buffer) fits

  written : told ≡ Ok (length sheet)
  written = t ∙ ap rooms.answer_of writes

  -- So Write refuses nothing.
  pub sheet_ok : is_ok told ≡ true
  sheet_ok = ap is_ok written

  pub sheet_written : {buffer' : List ℕ} {length' : ℕ} → buffer' ≡ after (λ bytes. bytes) (writing (take count list) (length buffer)) buffer → told ≡ Ok length'
      → (record { refused = false; bytes = take length' buffer' } ≡ printed text) × IsPrefixLen length' buffer'
  unfolding printed
  sheet_written {buffer'} {length'} b l =
      let size : length' ≡ length sheet = (let e = sym l ∙ written in cc) in
      let stored : buffer' ≡ sets buffer 0 sheet = b ∙ rw writes refl in
      let front : take length' buffer' ≡ sheet = rw (size, stored) (take-sets (length sheet) buffer sheet fits (omega arith) ∙ take-length sheet) in
      let within : length' ≤ length buffer' = omega (arith, fits, ap length stored ∙ length-sets buffer 0 sheet) in (
        rw (s.is, front),
        (within, sym (length-take-le length' buffer' within)),
      )
