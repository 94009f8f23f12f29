-- `plan` meets its contract: what is loaded and admitted is planned at the fronts of the lists.
use mathlib.Core.Path.{sym, ◌∙◌}
use Prim.Native.Nat.{ℕ, ◌≤◌}
use native.Mathlib.Omega.{arith}
use lib.ListN.{length, length-replicate}
use lib.Seq.{length-take-le}
use Rattle.std.proofs.lemmas.Result.{err_from_is_err_and}
use Rattle.rooms.specs.Table.{most_servers, most_cords}
use Rattle.deals.specs.Plan.{plan_of, output, Lists, lists, lengths_of}
use Rattle.deals.specs.declared.PlanList.TheVariants.{Grants, Caps, Headroom, Held}
use Rattle.layout.proofs.Loads.{found_accepted, servers-count, cords-count, servers_few, cords_few}
use Rattle.plan_rooms.specs.Planning.{PlanGiven}
use Rattle.deals.proofs.Plans.{each, output-length}
use Rattle.plans.proofs.PlanCall.{Admitted, admitted_good, admitted_refused, plan-given, copied_loaded, stored_again, refused_done, accepted_done}
use Rattle.plans.proofs.plan.Goals as goal
use Rattle.plans.proofs.plan.Goals.{In_ok-counts, After-copy-2}

-- The lists that are lent, and the room that is admitted.
abbrev lent : (c : In_ok-counts) → Lists
lent c = lists c.args.grants.now c.args.caps.now c.args.headroom.now c.args.held.now

admitted : (c : In_ok-counts) → Admitted c.args.table.now c.args.demands.now (lengths_of (λ list. length (lent c list))) c.in_ok-counts.counts
admitted c = admitted_good c.args.table.now c.args.demands.now (lengths_of (λ list. length (lent c list))) c.load_room-loaded.ensures.answer c.in_ok-counts.ensures.admitted

pub returns-in_err-counts : goal.returns-in_err-counts
returns-in_err-counts c =
    let p = err_from_is_err_and c.from_residual.result c.from_residual.ensures.1 in
    record {
      done = rw (p.1, p.2)
          (refused_done c.args.table.now c.args.demands.now (lists c.args.grants.now c.args.caps.now c.args.headroom.now c.args.held.now)
          (admitted_refused c.args.table.now c.args.demands.now _ c.load_room-loaded.ensures.answer c.in_err-counts.ensures.admitted));
    }

-- What is planned in: the lists that were loaded, the ceilings and the needs in those that are lent.
given : (c : After-copy-2) → (a : Admitted c.args.table.now c.args.demands.now (lengths_of (λ list. length (lists c.args.grants.now c.args.caps.now c.args.headroom.now c.args.held.now list))) c.in_ok-counts.counts)
    → PlanGiven c.args.table.now c.args.demands.now a.room_found.room c.in_ok-counts.counts c.load_room-loaded.new.parents c.load_room-loaded.new.spare c.load_room-loaded.new.cords
    c.load_room-loaded.new.lows c.load_room-loaded.new.wants c.copy.new.to c.copy-2.new.to
given c a =
    plan-given a
    (copied_loaded c.load_room-loaded.new.parents c.load_room-loaded.new.spare c.load_room-loaded.new.cords c.load_room-loaded.new.lows c.load_room-loaded.new.wants
    c.load_room-loaded.new.ceilings c.load_room-loaded.new.needs (found_accepted a.room_found) (c.load_room-loaded.ensures.lists a.room_found.room a.room_found.accepts)
    c.args.headroom.now c.args.caps.now c.copy.new.to c.copy-2.new.to
    (cords-count a.room_found) (servers-count a.room_found) (a.long Headroom) (a.long Caps) c.copy.ensures.copied c.copy-2.ensures.copied)

pub plan_loaded-requires : goal.plan_loaded-requires
plan_loaded-requires c =
    let at = goal.at.plan_loaded-requires c in
    let a = admitted at.In_ok-counts in
    record {
      room = record { table = c.args.table.now; demands = c.args.demands.now; room = a.room_found.room; given = given at.After-copy-2 a };
      space = (a.long Grants, a.long Held);
    }

pub returns : goal.returns
returns c =
    let at = goal.at.returns c in
    let a = admitted at.In_ok-counts in
    let room = a.room_found.room in
    let left = c.plan_loaded.ensures.planned c.args.table.now c.args.demands.now room (given at.After-copy-2 a) in
    let ceilings_long : c.in_ok-counts.counts.cords ≤ length c.load_room-loaded.new.ceilings
    = omega (arith, cords_few a.room_found, c.load_room-loaded.auto.ceilings, length-replicate {A = ℕ} most_cords 0) in
    let needs_long : c.in_ok-counts.counts.servers ≤ length c.load_room-loaded.new.needs
    = omega (arith, servers_few a.room_found, c.load_room-loaded.auto.needs, length-replicate {A = ℕ} most_servers 0) in
    let ceilings = length-take-le _ c.load_room-loaded.new.ceilings ceilings_long ∙ cords-count a.room_found in
    let needs = length-take-le _ c.load_room-loaded.new.needs needs_long ∙ servers-count a.room_found in
    record {
      done = accepted_done c.args.table.now c.args.demands.now (lent at.In_ok-counts) a.is left.freed_is
          (each _ (left.lists_are Grants)
          (stored_again c.args.caps.now _ (output Caps (plan_of room c.args.demands.now)) (needs ∙ sym (output-length room c.args.demands.now Caps)) c.copy-2.ensures.copied (left.lists_are Caps))
          (stored_again c.args.headroom.now _ (output Headroom (plan_of room c.args.demands.now)) (ceilings ∙ sym (output-length room c.args.demands.now Headroom)) c.copy.ensures.copied (left.lists_are Headroom))
          (left.lists_are Held));
    }
