-- `print_table` meets its contract: what is printed of each answer of Plan is what the definition gives.
use Rattle.deals.specs.Plan.{lists}
use Rattle.print.proofs.Putting.{put_as}
use Rattle.hutplan.proofs.Prints.{RoomText, table_refused, table_accepted}
use Rattle.hutplan.proofs.print_table.Goals as goal
use Rattle.hutplan.proofs.print_table.Goals.{In-Ok}

room_text : (c : In-Ok) → RoomText c.args.table.now c.args.demands.now c.in-Ok.freed (lists c.plan.new.grants c.plan.new.caps c.plan.new.headroom c.plan.new.held)
room_text c =
    table_accepted c.args.table.now c.args.demands.now (lists c.args.grants.now c.args.caps.now c.args.headroom.now c.args.held.now) c.requires.sizes _
    c.in-Ok.ensures.done.answer_is c.in-Ok.ensures.done.lists_are

pub plan-requires-in-Ok : goal.plan-requires-in-Ok
plan-requires-in-Ok c = record { good = (room_text (goal.at.plan-requires-in-Ok c).In-Ok).good_table }

pub returns-in-Ok-clause-put : goal.returns-in-Ok-clause-put
returns-in-Ok-clause-put c =
    let text = room_text (goal.at.returns-in-Ok-clause-put c).In-Ok in
    put_as text.text (c.plan-in-Ok.ensures.put text.good_table.value text.good_table.next text.good_table.is)

pub returns-in-Err-clause-put : goal.returns-in-Err-clause-put
returns-in-Err-clause-put c =
    let is = table_refused c.args.table.now c.args.demands.now (lists c.args.grants.now c.args.caps.now c.args.headroom.now c.args.held.now) c.requires.sizes c.in-Err.ensures.done.answer_is in
    rw (← is) at c.refused.ensures.put
