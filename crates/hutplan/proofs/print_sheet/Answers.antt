-- `print_sheet` meets its contract: what is printed of each answer of Read is what the definition gives.
use mathlib.Core.Path.{◌≡◌, sym}
use Prim.Native.Nat.{◌≤◌}
use lib.ListN.{length, take}
use lib.Seq.{length-take-le}
use Rattle.hutplan.specs.Printed.{table_text, sheet_text}
use Rattle.hutplan.proofs.Fits.{whole}
use Rattle.hutplan.proofs.Prints.{sheet_refused, sheet_accepted}
use Rattle.hutplan.proofs.print_sheet.Goals as goal
use Rattle.hutplan.proofs.print_sheet.Goals.{In-Ok}

accepted : (c : In-Ok) → (c.in-Ok.count ≤ length c.read.new.table)
    × (table_text (take c.in-Ok.count c.read.new.table) c.args.demands.now ≡ sheet_text c.args.sheet.now c.args.demands.now)
accepted c = sheet_accepted c.args.sheet.now c.args.demands.now c.args.table.now _ c.requires.sizes.0 c.in-Ok.ensures.result c.in-Ok.ensures.table

pub returns-in-Err-clause-printed : goal.returns-in-Err-clause-printed
returns-in-Err-clause-printed c =
    let is = sheet_refused c.args.sheet.now c.args.demands.now _ c.requires.sizes.0 c.in-Err.ensures.result in
    whole _ _ (rw (← is) at c.refused.ensures.put) c.requires.sizes.1

pub slice_bounds-print_table-end : goal.slice_bounds-print_table-end
slice_bounds-print_table-end c = (accepted (goal.at.slice_bounds-print_table-end c).In-Ok).0

pub slice_bounds-print_table-end-2 : goal.slice_bounds-print_table-end-2
slice_bounds-print_table-end-2 c = sym (length-take-le _ _ (accepted (goal.at.slice_bounds-print_table-end-2 c).In-Ok).0)

pub returns-clause-printed : goal.returns-clause-printed
returns-clause-printed c = whole _ _ (rw ((accepted (goal.at.returns-clause-printed c).In-Ok).1) at c.print_table.ensures.put) c.requires.sizes.1
