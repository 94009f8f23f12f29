-- `judge_room` meets its contract: the cords are judged and noted, and if they pass, the nodes decide.
use mathlib.Core.Path.{◌≡◌, sym, ◌∙◌}
use Prim.Native.Nat.{ℕ}
use native.Mathlib.Omega.{arith}
use lib.ListN.{length-replicate}
use Rattle.std.specs.Prelude.{replicate}
use Rattle.rooms.specs.Part.{good}
use Rattle.rooms.specs.Table.{Room, most_nodes}
use Rattle.rooms.specs.Limits.{checked}
use Rattle.figures.proofs.Filled.{zeros-at}
use Rattle.judge_totals.specs.Totals.{notes_in}
use Rattle.judge_totals.proofs.Noting.{unnoted}
use Rattle.judge.specs.Lists.{CordsPass}
use Rattle.judge.proofs.Judging.{no_number, is_below, is_above}
use Rattle.judge.proofs.judge_room.Goals as goal
use Rattle.judge.proofs.judge_room.Goals.{In_default-above}

-- Where no cord has too little or too much, all pass.
pass : (c : In_default-above) (r : Room) (end : ℕ) → checked c.args.table.now 0 ≡ good r end → CordsPass r c.args.demands.now c.args.grants.now (notes_in c.note_cords-faults.new.given c.note_cords-faults.new.raised c.note_cords-faults.new.wanting)
pass c r end is =
    let judged = c.note_cords-faults.ensures.judged r end is in
    record {
      grants_size = c.requires.sizes.1 r end is;
      none_below = no_number (sym c.in_default.is ∙ judged.below_is);
      none_above = no_number (sym c.in_default-above.is ∙ judged.above_is c.in_default.is);
      noted = λ n l. judged.noted c.in_default.is c.in_default-above.is n (omega (arith, l, length-replicate {A = ℕ} most_nodes 0));
    }

pub note_cords-faults-requires-clause-unnoted : goal.note_cords-faults-requires-clause-unnoted
note_cords-faults-requires-clause-unnoted c = (zeros-at most_nodes, λ n l. unnoted most_nodes (replicate most_nodes 0) (zeros-at most_nodes) most_nodes (omega arith) n (omega (arith, l, length-replicate {A = ℕ} most_nodes 0)))

pub returns-in-Some : goal.returns-in-Some
returns-in-Some c =
    record {
      result = λ r end is. is_below r c.args.demands.now c.args.grants.now (sym c.in-Some.is ∙ (c.note_cords-faults.ensures.judged r end is).below_is);
    }

pub returns-in-Some-above : goal.returns-in-Some-above
returns-in-Some-above c =
    record {
      result = λ r end is.
          let judged = c.note_cords-faults.ensures.judged r end is in
          is_above r c.args.demands.now c.args.grants.now (sym c.in_default.is ∙ judged.below_is) (sym c.in-Some-above.is ∙ judged.above_is c.in_default.is);
    }

pub judge_nodes-requires-clause-noted : goal.judge_nodes-requires-clause-noted
judge_nodes-requires-clause-noted c =
    record { demands = c.args.demands.now; grants = c.args.grants.now; pass = pass (goal.at.judge_nodes-requires-clause-noted c).In_default-above }

pub returns : goal.returns
returns c =
    record {
      result = λ r end is. c.judge_nodes.ensures.result r end is c.args.demands.now c.args.grants.now (pass (goal.at.returns c).In_default-above r end is);
    }
