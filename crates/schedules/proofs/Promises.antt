-- The promises of `schedules`, proved.
use mathlib.Core.Path.{◌≡◌, refl, sym}
use mathlib.Core.Bool.{Bool, true, false, ◌||◌}
use mathlib.Core.List.{List, [], ◌∷◌}
use Prim.Native.Nat.{ℕ, zero, suc, ◌-◌, ◌≤◌, ◌<◌}
use native.Mathlib.Nat.{suc-ne-zero}
use native.Mathlib.Omega.{arith}
use lib.ListN.{length, get_or, length-map}
use lib.Dec.{eqb}
use borrow.Author.Tests.{eqb-true, eq-eqb, eqb-false}
use Rattle.schedules.specs.Sizes.{sizes, is_in, is_size}
use Rattle.outcomes.specs.Outcome.{accepted}
use Rattle.outcomes.proofs.Outcomes.{unless-back, unless_is}
use Rattle.schedules.specs.Schedule.{ScheduleEnding, whole, stopped, lines_of, room_of, table_of, no_lines, scheduled_lines, scheduling}
use Rattle.schedules.specs.Promises.{SizesRise, SizesAreTheTable, AcceptedIsWritten, WrittenIsRead, AnsweredExactly, ScheduleGivesRoom, FirstBytesDecide}
use Rattle.schedules.proofs.SizeLaws as sizes
use Rattle.schedules.proofs.TableLaws.{few_entries}
use Rattle.schedules.specs.Written.{LinesPass}
use Rattle.schedules.proofs.RoomTable.{entries_pass, table-checked, table-written, node-of}
use Rattle.schedules.proofs.ReadsText.{lines_read}
use Rattle.schedules.proofs.WritesText.{lines-written}
use Rattle.schedules.proofs.FirstBytes.{scheduling-cut}
use Rattle.schedules.proofs.Answers.{tells_24, tells_25, tells_26, tells_12, tells_0}

-- ---- The sizes

pub sizes_rise : SizesRise
unfolding sizes
sizes_rise = record { count = refl; rise = sizes.rises 0 sizes sizes.sizes_rise }

-- A number that is in a list stands at a place of it, and the number at a place is in it.
record At (n : ℕ) (l : List ℕ) : Type 0 where
  place : ℕ
  within : place < length l
  is : get_or l place 0 ≡ n

is_at : (n : ℕ) (l : List ℕ) → is_in n l ≡ true → At n l
unfolding is_in
is_at n [] e = absurd (suc-ne-zero 0 (cc))
is_at n (m ∷ rest) e = go (eqb n m) refl e (is_at n rest)
  where
    go : (t : Bool) → eqb n m ≡ t → t || is_in n rest ≡ true → (is_in n rest ≡ true → At n rest) → At n (m ∷ rest)
    go true q e further = record { place = 0; within = omega arith; is = sym (eqb-true n m q) }
    go false q e further = let a = further e in record { place = suc a.place; within = omega (arith, a.within); is = a.is }

at_is : (l : List ℕ) (place : ℕ) → place < length l → is_in (get_or l place 0) l ≡ true
unfolding is_in
at_is [] place h = absurd (omega arith)
at_is (m ∷ rest) zero h = rw (eq-eqb m m refl)
at_is (m ∷ rest) (suc place) h = rw (at_is rest place (omega arith)) (or_true (eqb (get_or rest place 0) m))
  where
    or_true : (t : Bool) → t || true ≡ true
    or_true true = refl
    or_true false = refl

pub sizes_are_the_table : SizesAreTheTable
unfolding is_size
sizes_are_the_table amperes = (
  λ e. let a = is_at amperes sizes e in record { place = a.place; within = a.within; is = a.is },
  λ a. rw (← a.is) (at_is sizes a.place a.within),
)

-- ---- The table of an accepted schedule

-- What is accepted is the table of all lines, of which there is at least one.
record AllLines (text table : List ℕ) : Type 0 where
  ends : (lines_of text).ending ≡ whole
  is : table_of (lines_of text).entries ≡ table
  some : 1 ≤ length (lines_of text).entries

accepted_is : (text table : List ℕ) (words : ℕ) → scheduling text words ≡ accepted table → AllLines text table
unfolding scheduling
accepted_is text table words e = ended (lines_of text).ending refl e
  where
    ended : (ending : ScheduleEnding) → (lines_of text).ending ≡ ending → scheduled_lines (lines_of text).entries ending words ≡ accepted table → AllLines text table
    ended whole w e =
        let entries = (lines_of text).entries in
        let some = (unless-back (no_lines entries) _ (table_of entries) e).0 in
        record { ends = w; is = sym (unless_is _ (table_of entries) table e); some = omega (arith, eqb-false (length entries) 0 some) }
    ended (stopped q) w e = absurd (suc-ne-zero 0 (cc))

pub accepted_is_written : AcceptedIsWritten
accepted_is_written text table words e =
    record {
      lines = lines_read 513 text 0 0 (omega arith) (omega arith) (accepted_is text table words e).ends;
      pass = entries_pass 513 text 0 0;
    }

pub written_is_read : WrittenIsRead
written_is_read entries text w p = lines-written w p

pub schedule_gives_room : ScheduleGivesRoom
schedule_gives_room text table words e =
    let a = accepted_is text table words e in
    let entries = (lines_of text).entries in
    let p : LinesPass 0 entries = entries_pass 513 text 0 0 in
    rw (← a.is)
    (record {
      room = room_of entries;
      end = length (table_of entries);
      checks = table-checked entries p a.some (few_entries text);
      writes = table-written entries p a.some (few_entries text);
      servers = refl;
      nodes = length-map entries _;
      parent = λ n h k. (node-of entries (n - 1)).0;
      rated = λ n h k. (node-of entries (n - 1)).1;
    })

-- ---- Answers

pub answered_exactly : AnsweredExactly
answered_exactly = record { no_line = tells_24; no_size = tells_25; out_of_range = tells_26; list-short = tells_12; accepted = tells_0 }

-- ---- How much of a text decides

pub first_bytes_decide : FirstBytesDecide
first_bytes_decide = scheduling-cut
