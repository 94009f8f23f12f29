-- `judge` meets its contract: what is loaded, with a grant for each cord, is judged by the room of its table.
use native.Mathlib.Omega.{arith}
use Rattle.std.proofs.lemmas.Result.{err_from_is_err_and}
use Rattle.layout.proofs.Loads.{found}
use Rattle.judge.proofs.Admitting.{load_told, count-told, scale_fits, servers-fit, nodes-given, grants_fit, verdict-told}
use Rattle.judge.proofs.judge.Goals as goal

pub returns-in_err-counts : goal.returns-in_err-counts
returns-in_err-counts c =
    let p = err_from_is_err_and c.from_residual.result c.from_residual.ensures.1 in
    record { result = rw (p.1, p.2) (load_told _ _ _ c.in_err-counts.ensures.answer) }

pub returns-then-grants-counts : goal.returns-then-grants-counts
returns-then-grants-counts c =
    let room = found c.in_ok-counts.ensures.answer in
    record { result = count-told c.args.table.now c.args.demands.now c.args.grants.now room (λ q. absurd (omega (arith, q, c.if-grants-counts.true))) }

pub judge_room-requires : goal.judge_room-requires
judge_room-requires c =
    let room = found c.in_ok-counts.ensures.answer in
    record {
      table = (nodes-given _ _ c.args.grants.now room c.in_ok-counts.ensures.lows, scale_fits _ _ c.args.grants.now room);
      sizes = (servers-fit _ _ c.args.grants.now room, grants_fit _ _ c.args.grants.now room (omega (arith, c.if-grants-counts.false)));
    }

pub returns : goal.returns
returns c =
    let room = found c.in_ok-counts.ensures.answer in
    record { result = verdict-told c.args.table.now c.args.demands.now c.args.grants.now room (omega (arith, c.if-grants-counts.false)) c.judge_room.ensures.result }
