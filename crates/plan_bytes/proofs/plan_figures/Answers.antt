-- `plan_figures` meets its contract: what is loaded and admitted is planned, in lists that take any plan.
use mathlib.Core.List.{List}
use Prim.Native.Nat.{ℕ}
use native.Mathlib.Omega.{arith}
use Rattle.std.proofs.lemmas.Result.{err_from_is_err_and}
use Rattle.words.specs.Bytes.{words_of}
use Rattle.layout.proofs.Loads.{servers_few, cords_few}
use Rattle.plan_rooms.specs.Planning.{PlanGiven}
use Rattle.deals.proofs.Plans.{each}
use Rattle.plans.proofs.PlanCall.{Admitted, admitted_good, admitted_refused, plan-given}
use Rattle.plan_bytes.proofs.PlanLaws.{figures_accepted, figures_refused}
use Rattle.plan_bytes.proofs.plan_figures.Goals as goal
use Rattle.plan_bytes.proofs.plan_figures.Goals.{In_ok-counts}

module _ (c : In_ok-counts) where
  abbrev table : List ℕ
  table = words_of c.args.table.now

  abbrev demands : List ℕ
  demands = words_of c.args.demands.now

  -- The room that is admitted, and its lists.
  admitted : Admitted table demands c.args.lengths c.in_ok-counts.counts
  admitted = admitted_good table demands c.args.lengths c.load_bytes-loaded.ensures.answer c.in_ok-counts.ensures.admitted

  given : PlanGiven table demands admitted.room_found.room c.in_ok-counts.counts c.load_bytes-loaded.new.parents c.load_bytes-loaded.new.spare c.load_bytes-loaded.new.cords
      c.load_bytes-loaded.new.lows c.load_bytes-loaded.new.wants c.load_bytes-loaded.new.ceilings c.load_bytes-loaded.new.needs
  given = plan-given admitted (c.load_bytes-loaded.ensures.lists admitted.room_found.room admitted.room_found.accepts)

pub returns-in_err-counts : goal.returns-in_err-counts
returns-in_err-counts c =
    let p = err_from_is_err_and c.from_residual.result c.from_residual.ensures.1 in
    let refused = admitted_refused (words_of c.args.table.now) (words_of c.args.demands.now) c.args.lengths c.load_bytes-loaded.ensures.answer c.in_err-counts.ensures.admitted in
    record { few = rw p.1 tt; planned = rw (p.1, p.2) (figures_refused _ refused _) }

pub plan_loaded-freed-requires : goal.plan_loaded-freed-requires
plan_loaded-freed-requires c =
    let at = (goal.at.plan_loaded-freed-requires c).In_ok-counts in
    let a = admitted at in
    record {
      room = record { table = table at; demands = demands at; room = a.room_found.room; given = given at };
      space = (omega (arith, cords_few a.room_found, c.requires.cords.0), omega (arith, cords_few a.room_found, c.requires.cords.2));
    }

pub returns : goal.returns
returns c =
    let at = (goal.at.returns c).In_ok-counts in
    let a = admitted at in
    let cords = cords_few a.room_found in
    let servers = servers_few a.room_found in
    record {
      few = (cords, servers);
      planned = figures_accepted a _ _ (c.plan_loaded-freed.ensures.planned (table at) (demands at) a.room_found.room (given at))
          (each _ (omega (arith, cords, c.requires.cords.0)) (omega (arith, servers, c.requires.servers, c.load_bytes-loaded.auto.needs))
          (omega (arith, cords, c.requires.cords.1, c.load_bytes-loaded.auto.ceilings)) (omega (arith, cords, c.requires.cords.2)));
    }
