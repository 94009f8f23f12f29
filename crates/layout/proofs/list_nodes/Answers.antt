-- `list_nodes` meets its contract: the list has the nodes of all cords.
use mathlib.Core.Path.{sym, ◌∙◌}
use native.Mathlib.Omega.{arith}
use lib.ListN.{length-map, get_or-map}
use lib.Seq.{ext_get_or}
use Rattle.rooms.specs.Rows.{no_cord_row}
use Rattle.rooms.specs.declared.lists.CordRow.{CordRow}
use Rattle.layout.proofs.list_nodes.Goals as goal

pub returns : goal.returns
returns c =
    let all = length-map c.args.cords.now (λ (row : CordRow). row.node) in
    record {
      listed = ext_get_or 0 _ _ (omega (arith, all))
          (λ h l. c.loop-c.invariant h (omega arith) ∙ sym (get_or-map (λ (row : CordRow). row.node) c.args.cords.now h no_cord_row));
    }
