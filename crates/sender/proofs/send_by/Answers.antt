-- `send_by` meets its contract: the answer is told, and where it accepts, just the servers named are stored.
use mathlib.Core.Path.{refl, sym}
use Prim.Native.Nat.{◌/◌, ◌≤◌}
use native.Mathlib.Omega.{arith}
use lib.ListN.{length}
use lib.Seq.{length-take-le}
use Rattle.calls.proofs.Calls.{call_short}
use Rattle.sender.proofs.Outcomes.{Told, refused_told, accepted_told}
use Rattle.sender.proofs.Calls.{named_fits, call_refused, call_accepted}
use Rattle.sender.proofs.send_by.Goals as goal
use Rattle.sender.proofs.send_by.Goals.{In-Ok}

-- What the answer says of the input, where it accepts.
told : (c : In-Ok) → Told c.args.count c.args.position c.args.m (length c.args.list.now / 4) c.in-Ok.period.named
told c = accepted_told _ _ _ _ c.in-Ok.ensures.answer

fits : (c : In-Ok) → c.in-Ok.period.named ≤ length c.args.servers.now
fits c = let told = told c in omega (arith, told.counted, told.inside.most, c.requires.servers_long)

pub returns-then-answer-lt-LONG_ANSWER_BYTES : goal.returns-then-answer-lt-LONG_ANSWER_BYTES
returns-then-answer-lt-LONG_ANSWER_BYTES c = record { called = call_short _ _ _ (omega arith) refl }

pub slice_bounds-name_servers-end : goal.slice_bounds-name_servers-end
slice_bounds-name_servers-end c = fits (goal.at.slice_bounds-name_servers-end c).In-Ok

pub slice_bounds-name_servers-end-in-Ok : goal.slice_bounds-name_servers-end-in-Ok
slice_bounds-name_servers-end-in-Ok c = sym (length-take-le _ _ (fits (goal.at.slice_bounds-name_servers-end-in-Ok c).In-Ok))

pub name_servers-requires : goal.name_servers-requires
name_servers-requires c =
    let told = told (goal.at.name_servers-requires c).In-Ok in
    record { position_bounded = told.inside.below; count_bounded = told.inside.most }

pub slice_bounds-store-end : goal.slice_bounds-store-end
slice_bounds-store-end c =
    named_fits c.args.count c.args.position c.args.servers.now (fits (goal.at.slice_bounds-store-end c).In-Ok) c.name_servers.ensures.list

pub slice_bounds-store-end-in-Ok : goal.slice_bounds-store-end-in-Ok
slice_bounds-store-end-in-Ok c =
    let fits = fits (goal.at.slice_bounds-store-end-in-Ok c).In-Ok in
    sym (length-take-le _ _ (named_fits c.args.count c.args.position c.args.servers.now fits c.name_servers.ensures.list))

pub returns-in-Ok : goal.returns-in-Ok
returns-in-Ok c =
    record {
      called =
          let at = (goal.at.returns-in-Ok c).In-Ok in
          call_accepted c.args.count c.args.position c.args.m c.args.list.now c.args.answer.now (omega (arith, c.if-answer-lt-LONG_ANSWER_BYTES.false))
          (rw (sym c.answer_for-sent.ensures.answer) c.tell.ensures.told) c.args.servers.now (told at) (fits at) c.name_servers.ensures.list c.store.ensures.stored;
    }

pub returns-in_default : goal.returns-in_default
returns-in_default c =
    record {
      called =
          call_refused c.args.count c.args.position c.args.m c.args.list.now c.args.answer.now (omega (arith, c.if-answer-lt-LONG_ANSWER_BYTES.false))
          (rw (sym c.answer_for-sent.ensures.answer) c.tell.ensures.told) (refused_told _ _ _ _ c.in_default.ensures.answer);
    }
