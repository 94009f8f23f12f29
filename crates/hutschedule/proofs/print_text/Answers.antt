-- `print_text` meets its contract: a refusal is printed, and the sheet of an accepted table is written.
use mathlib.Core.Path.{sym}
use lib.Seq.{length-take-le}
use Rattle.hutschedule.proofs.Prints.{Stands, text_refused, stands, sheet_ok, sheet_written}
use Rattle.hutschedule.proofs.print_text.Goals as goal
use Rattle.hutschedule.proofs.print_text.Goals.{In-Ok}

table : (c : In-Ok) → Stands c.args.text.now c.schedule.new.table c.in-Ok.count
table c = stands c.args.text.now c.args.table.now c.requires.sizes.0 c.in-Ok.ensures.answer c.in-Ok.ensures.table

pub returns-in-Err-clause-printed : goal.returns-in-Err-clause-printed
returns-in-Err-clause-printed c = text_refused _ _ c.requires.sizes.0 c.requires.sizes.1 c.in-Err.ensures.answer c.refused.ensures.put

pub slice_bounds-write-end : goal.slice_bounds-write-end
slice_bounds-write-end c = (table (goal.at.slice_bounds-write-end c).In-Ok).fits

pub slice_bounds-write-end-2 : goal.slice_bounds-write-end-2
slice_bounds-write-end-2 c = sym (length-take-le _ _ (table (goal.at.slice_bounds-write-end-2 c).In-Ok).fits)

pub unwrap-requires : goal.unwrap-requires
unwrap-requires c = sheet_ok _ _ c.args.buffer.now (table (goal.at.unwrap-requires c).In-Ok) c.requires.sizes.1 c.write.ensures.result

pub returns : goal.returns
returns c =
    let both = sheet_written _ _ c.args.buffer.now (table (goal.at.returns c).In-Ok) c.requires.sizes.1 c.write.ensures.result c.write.ensures.sheet c.unwrap.ensures in
    record { printed = both.0; counts = both.1 }
