-- `send` meets its contract: the answer decides, and servers are named only where it accepts.
use mathlib.Core.Path.{refl, sym}
use lib.ListN.{length}
use lib.Seq.{length-take-le}
use Rattle.sender.proofs.Outcomes.{Told, accepted_told, named_done}
use Rattle.sender.proofs.send.Goals as goal
use Rattle.sender.proofs.send.Goals.{In_ok-sent}

-- What the answer says of the input, where it accepts.
told : (c : In_ok-sent) → Told c.args.count c.args.position c.args.m (length c.args.list.now) c.in_ok-sent.sent.named
told c = accepted_told _ _ _ _ c.in_ok-sent.ensures.answer

pub slice_bounds-name_servers-end : goal.slice_bounds-name_servers-end
slice_bounds-name_servers-end c = (told (goal.at.slice_bounds-name_servers-end c).In_ok-sent).fits

pub slice_bounds-name_servers-end-2 : goal.slice_bounds-name_servers-end-2
slice_bounds-name_servers-end-2 c = sym (length-take-le _ _ (told (goal.at.slice_bounds-name_servers-end-2 c).In_ok-sent).fits)

pub name_servers-requires : goal.name_servers-requires
name_servers-requires c =
    let told = told (goal.at.name_servers-requires c).In_ok-sent in
    record { position_bounded = told.inside.below; count_bounded = told.inside.most }

pub returns-clause-list : goal.returns-clause-list
returns-clause-list c =
    let told = told (goal.at.returns-clause-list c).In_ok-sent in
    named_done c.args.count c.args.position c.args.m _ c.args.list.now refl told c.name_servers.ensures.list
