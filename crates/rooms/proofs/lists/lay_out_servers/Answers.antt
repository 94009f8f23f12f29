-- `lay_out_servers` meets its contract: before each turn the rows have the figures of the servers and cords passed.
use Rattle.std.proofs.Common.{arith}
use Rattle.rooms.proofs.Laying.{laying_start, laying_server, laying_end, cord_fits, row_fits, server-cord, server-end}
use Rattle.rooms.proofs.lists.lay_out_servers.Goals as goal

pub loop-v-init : goal.loop-v-init
loop-v-init c = laying_start c.requires.good c.requires.sizes.0 c.requires.sizes.1 c.first_server-start.ensures.result.0

pub bounds-table-start : goal.bounds-table-start
bounds-table-start c = omega (arith, (laying_server c.loop-v.invariant (omega arith)).there)

pub bounds-table-start-in-loop-v : goal.bounds-table-start-in-loop-v
bounds-table-start-in-loop-v c = omega (arith, (laying_server c.loop-v.invariant (omega arith)).there)

pub bounds-table-word : goal.bounds-table-word
bounds-table-word c = omega (arith, (cord_fits c.loop-c.invariant c.loop-c-test.true).there)

pub bounds-table-word-in-loop-c : goal.bounds-table-word-in-loop-c
bounds-table-word-in-loop-c c = omega (arith, (cord_fits c.loop-c.invariant c.loop-c-test.true).there)

pub cord_row-requires : goal.cord_row-requires
cord_row-requires c = record { in_range = row_fits c.loop-c.invariant c.loop-c-test.true }

pub bounds-cords-c : goal.bounds-cords-c
bounds-cords-c c = (cord_fits c.loop-c.invariant c.loop-c-test.true).in_cords

pub loop-c-preserved : goal.loop-c-preserved
loop-c-preserved c = server-cord c.loop-c.invariant c.loop-c-test.true c.cord_row.ensures.result

pub bounds-table-start-in-loop-v-2 : goal.bounds-table-start-in-loop-v-2
bounds-table-start-in-loop-v-2 c = omega (arith, (laying_server c.loop-v.invariant (omega arith)).there)

pub bounds-table-start-in-loop-v-3 : goal.bounds-table-start-in-loop-v-3
bounds-table-start-in-loop-v-3 c = omega (arith, (laying_server c.loop-v.invariant (omega arith)).there)

pub bounds-table-start-in-loop-v-4 : goal.bounds-table-start-in-loop-v-4
bounds-table-start-in-loop-v-4 c = omega (arith, (laying_server c.loop-v.invariant (omega arith)).there)

pub loop-v-preserved : goal.loop-v-preserved
loop-v-preserved c = (server-end c.loop-c.invariant c.loop-c-test.false).1

pub returns : goal.returns
returns c = record { laid_out = laying_end c.loop-v.invariant (omega arith) (omega arith) }
