-- `load_room` meets its contract: the lists of the room that was found are laid out at the fronts.
use mathlib.Core.Path.{◌∙◌}
use native.Mathlib.Nat.{le_of_eq}
use native.Mathlib.Omega.{arith}
use lib.Seq.{get_or-take}
use Rattle.layout.proofs.Loads.{lows_long, lows-told, RoomFound, found, found_good, nodes-fit, nodes-lent, servers-lent, cords-lent, demands_fit, lists-loaded}
use Rattle.layout.proofs.room.load_room.Goals as goal
use Rattle.layout.proofs.room.load_room.Goals.{In_ok-counts}

-- The room that is found.
room : (c : In_ok-counts) → RoomFound c.args.table.now c.args.demands.now c.in_ok-counts.counts
room c = found c.in_ok-counts.ensures.answer

pub load_nodes-requires : goal.load_nodes-requires
load_nodes-requires c =
    let r = room (goal.at.load_nodes-requires c).In_ok-counts in
    let beneath = c.admit.new.beneath in
    let lows = c.in_ok-counts.ensures.lows in
    record {
      good = found_good r;
      lists = (
        nodes-lent r beneath (le_of_eq (lows_long c.args.table.now beneath lows)),
        nodes-lent r _ c.requires.space.for_parents,
        nodes-lent r _ c.requires.space.for_spare,
        λ q end is n l. get_or-take _ beneath n 0 (omega (arith, nodes-fit r q end is)) ∙ lows-told c.args.table.now beneath lows q end is n l,
      );
    }

pub load_cords-requires : goal.load_cords-requires
load_cords-requires c =
    let r = room (goal.at.load_cords-requires c).In_ok-counts in
    record {
      lists = record {
        good_table = found_good r;
        demands_fit = demands_fit r;
        cords-fit = cords-lent r _ c.requires.space.for_cords;
        lows_fit = cords-lent r _ c.requires.space.for_lows;
        wants_fit = cords-lent r _ c.requires.space.for_wants;
        ceilings_fit = cords-lent r _ c.requires.space.for_ceilings;
        needs_fit = servers-lent r _ c.requires.space.for_needs;
      };
    }

pub returns-clause-lists : goal.returns-clause-lists
returns-clause-lists c =
    let r = room (goal.at.returns-clause-lists c).In_ok-counts in
    let few = c.in_ok-counts.ensures.few in
    lists-loaded r {spare' = c.load_nodes.new.spare} c.load_nodes.ensures.laid_out c.load_cords.ensures.laid_out
    (record { few = omega (arith, c.requires.space.for_parents, few.nodes); kept = c.load_nodes.auto.parents })
    (record { few = omega (arith, c.requires.space.for_spare, few.nodes); kept = c.load_nodes.auto.spare })
    (record { few = omega (arith, c.requires.space.for_cords, few.cords); kept = c.load_cords.auto.cords })
    (record { few = omega (arith, c.requires.space.for_lows, few.cords); kept = c.load_cords.auto.lows })
    (record { few = omega (arith, c.requires.space.for_wants, few.cords); kept = c.load_cords.auto.wants })
    (record { few = omega (arith, c.requires.space.for_ceilings, few.cords); kept = c.load_cords.auto.ceilings })
    (record { few = omega (arith, c.requires.space.for_needs, few.servers); kept = c.load_cords.auto.needs })
