-- `admit` meets its contract: the checks are made in the order of the definition's reasons to refuse.
use mathlib.Core.Path.{◌≡◌, refl}
use lib.ListN.{length}
use Rattle.std.proofs.lemmas.Result.{err_from_is_err_and}
use Rattle.rooms.specs.Part.{Good}
use Rattle.rooms.specs.Limits.{checked}
use Rattle.layout.proofs.Loads.{table_good, cords-told, table-told, count-told, count-passed, large_told, all_passed, room_told, found, counts_few}
use Rattle.layout.proofs.room.admit.Goals as goal
use Rattle.layout.proofs.room.admit.Goals.{After-server_count-servers}

-- The room of the good table, and its count of servers.
room : (c : After-server_count-servers) → Good (checked c.args.table.now 0)
room c = table_good c.args.table.now c.in_ok-cords.ensures.result

servers : (c : After-server_count-servers) → c.server_count-servers.result ≡ length (room c).value.servers
servers c = let r = room c in c.server_count-servers.ensures.count r.value r.next r.is

pub returns-in_err-cords-clause-answer : goal.returns-in_err-cords-clause-answer
returns-in_err-cords-clause-answer c =
    let p = err_from_is_err_and c.from_residual.result c.from_residual.ensures.1 in
    rw (p.1, p.2) (table-told _ _ c.in_err-cords.ensures.result)

pub returns-then-demands-servers-clause-answer : goal.returns-then-demands-servers-clause-answer
returns-then-demands-servers-clause-answer c =
    let at = (goal.at.returns-then-demands-servers-clause-answer c).After-server_count-servers in
    count-told c.args.table.now c.args.demands.now (room at) _ (servers at) c.if-demands-servers.true

pub returns-in-Some-clause-answer : goal.returns-in-Some-clause-answer
returns-in-Some-clause-answer c =
    let at = (goal.at.returns-in-Some-clause-answer c).After-server_count-servers in
    large_told c.args.table.now c.args.demands.now (room at) (count-passed c.args.table.now c.args.demands.now (room at) _ (servers at) c.if-demands-servers.false) _
    c.in-Some.ensures.found.0 c.in-Some.ensures.found.1

pub returns : goal.returns
returns c =
    let at = (goal.at.returns c).After-server_count-servers in
    let r = room at in
    let told = room_told c.args.table.now c.args.demands.now r
    (all_passed c.args.table.now c.args.demands.now r (count-passed c.args.table.now c.args.demands.now r _ (servers at) c.if-demands-servers.false) _
    refl c.in_default.ensures.found)
    (c.node_count.ensures.count r.value r.next r.is) (servers at)
    (cords-told c.args.table.now c.in_ok-cords.ensures.result r.value r.next r.is) (c.table_scale.ensures.scale r.value r.next r.is) in
    record { few = counts_few (found told); answer = told; lows = c.check_lows.ensures.lows }
