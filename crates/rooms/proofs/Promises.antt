-- The promises of `rooms`, proved.
use mathlib.Core.Path.{◌≡◌, sym, ap, ◌∙◌}
use native.Mathlib.Omega.{arith}
use Rattle.outcomes.proofs.Outcomes.{fitting_whole}
use Rattle.numbers.specs.Sheet.{bytes_of}
use Rattle.numbers.proofs.Promises as numbers
use Rattle.rooms.specs.Outcome.{reading}
use Rattle.rooms.specs.declared.SheetRefusal.TheVariants.{OutputTooShort}
use Rattle.rooms.specs.Promises.{GoodTableOfRoom, RoomReadsBack, RefusalNine, TableReadsBack, SheetWritesBack, ReadIsChecked, FirstWordsDecide}
use Rattle.rooms.proofs.Reach.{words_small}
use Rattle.rooms.proofs.Words as words
use Rattle.rooms.proofs.Overloaded as overloaded
use Rattle.rooms.proofs.Outcomes.{reading_is, writing_is, writing_good}
use Rattle.rooms.proofs.Lent.{reading-first}

pub good_table_of_room : GoodTableOfRoom
good_table_of_room = words.good_table_of_room

pub room_reads_back : RoomReadsBack
room_reads_back = words.room_reads_back

pub refusal_nine : RefusalNine
refusal_nine = overloaded.refusal_nine

pub table_reads_back : TableReadsBack
unfolding reading
table_reads_back table sheet bytes words e h =
    let w = writing_is table bytes e in
    let c = w.0 in
    rw (← w.1, numbers.sheet_reads_back table (λ i. omega (arith, words_small table c.value c.next c.is i)), c.is) (fitting_whole OutputTooShort table words h)

pub sheet_writes_back : SheetWritesBack
sheet_writes_back sheet table words bytes all e h =
    let r = reading_is sheet words e in
    let back : bytes_of table ≡ sheet = ap bytes_of (sym r.words_are) ∙ numbers.sheet_writes_back sheet all r.ends in
    writing_good table bytes r.checks.is ∙ rw back (fitting_whole OutputTooShort sheet bytes h)

pub read_is_checked : ReadIsChecked
read_is_checked sheet table words e = (reading_is sheet words e).checks

pub first_words_decide : FirstWordsDecide
first_words_decide taken sheet words h = reading-first sheet words taken h
