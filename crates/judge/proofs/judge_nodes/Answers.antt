-- `judge_nodes` meets its contract: the nodes' notes are made of those of the cords, and the verdict of theirs.
use mathlib.Core.Path.{◌≡◌, sym, ◌∙◌}
use mathlib.Core.List.{List}
use Prim.Native.Nat.{ℕ}
use native.Mathlib.Omega.{arith}
use Rattle.figures.proofs.Cells.{zeros-front}
use Rattle.rooms.specs.Part.{good}
use Rattle.rooms.specs.Table.{Room, most_nodes}
use Rattle.rooms.specs.Limits.{checked}
use Rattle.rooms.specs.Lists.{nodes_of, levels_of, lows_of}
use Rattle.rooms.proofs.Accepted.{accepted}
use Rattle.deals.specs.Wants.{first_wants}
use Rattle.judge_totals.specs.Totals.{notes_in, Compared}
use Rattle.judge_totals.proofs.Noting.{given_few, compared}
use Rattle.judge.specs.Lists.{CordsPass}
use Rattle.judge.proofs.Judging.{RoomNodes, node_lists, cord-lists, is_over, is-short, is_passes}
use Rattle.judge.proofs.judge_nodes.Goals as goal
use Rattle.judge.proofs.judge_nodes.Goals.{After-load_nodes, After-note_nodes}

-- The nodes' lists are those of the table's room.
room_nodes : (c : After-load_nodes) (r : Room) (end : ℕ) → checked c.args.table.now 0 ≡ good r end → RoomNodes r c.load_nodes.new.parents c.load_nodes.new.spare
room_nodes c r end is =
    let laid_out = c.load_nodes.ensures.laid_out r end is in
    let few = c.requires.table.few in
    record {
      parents_are = laid_out.0;
      spare_size = c.load_nodes.auto.spare ∙ zeros-front most_nodes _ few ∙ sym (c.load_nodes.auto.parents ∙ zeros-front most_nodes _ few);
      spare_is = laid_out.1;
    }

-- What the passes come to, by these lists.
module _ (c : After-note_nodes) (r : Room) (end : ℕ) (is : checked c.args.table.now 0 ≡ good r end) (lists : RoomNodes r c.load_nodes.new.parents c.load_nodes.new.spare)
    (demands grants : List ℕ) (pass : CordsPass r demands grants (notes_in c.args.given.now c.args.raised.now c.args.wanting.now)) where
  passed : Compared c.load_nodes.new.parents c.load_nodes.new.spare (nodes_of r) (levels_of r) (lows_of r) (first_wants r demands) grants c.note_nodes.result c.note_nodes.new.wanting
  passed =
      let ok = accepted c.args.table.now r end is in
      compared (node_lists r ok lists) (cord-lists r ok lists pass) _ pass.noted (notes_in c.note_nodes.new.given c.note_nodes.new.raised c.note_nodes.new.wanting) c.note_nodes.ensures.result c.note_nodes.ensures.noted

pub note_nodes-requires : goal.note_nodes-requires
note_nodes-requires c =
    let g = c.requires.table.good_table in
    let lists = room_nodes (goal.at.note_nodes-requires c).After-load_nodes g.value g.next g.is in
    let ok = accepted c.args.table.now g.value g.next g.is in
    let pass = c.requires.noted.pass g.value g.next g.is in
    let nodes = node_lists g.value ok lists in
    record {
      node_lists = nodes;
      lengths = (omega (arith, nodes.few), omega (arith, nodes.few), omega (arith, nodes.few));
      sums_fit = given_few nodes (cord-lists g.value ok lists pass) _ pass.noted;
    }

pub returns-in-Some : goal.returns-in-Some
returns-in-Some c =
    let at = goal.at.returns-in-Some c in
    record {
      result = λ r end is demands grants pass.
          let lists = room_nodes at.After-load_nodes r end is in
          is_over r (accepted _ r end is) lists pass (passed at.After-note_nodes r end is lists demands grants pass) c.in-Some.is;
    }

pub returns-in-Some-lowest_marked : goal.returns-in-Some-lowest_marked
returns-in-Some-lowest_marked c =
    let at = goal.at.returns-in-Some-lowest_marked c in
    record {
      result = λ r end is demands grants pass.
          let lists = room_nodes at.After-load_nodes r end is in
          is-short r (accepted _ r end is) lists pass (passed at.After-note_nodes r end is lists demands grants pass) c.in_default.is
          c.lowest_marked.ensures.result c.in-Some-lowest_marked.is c.from.ensures;
    }

pub returns : goal.returns
returns c =
    let at = goal.at.returns c in
    record {
      result = λ r end is demands grants pass.
          let lists = room_nodes at.After-load_nodes r end is in
          is_passes r (accepted _ r end is) lists pass (passed at.After-note_nodes r end is lists demands grants pass) c.in_default.is
          c.lowest_marked.ensures.result c.in_default-lowest_marked.is;
    }
