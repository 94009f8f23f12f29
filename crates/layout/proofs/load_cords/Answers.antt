-- `load_cords` meets its contract: before each turn the lists have the figures of the servers and cords passed.
use mathlib.Core.Path.{refl}
use native.Mathlib.Omega.{arith}
use Rattle.layout.proofs.Loading.{loading_start, loading-end, server-here, server_begin, in_needs, server-end, cord_fits, server-cord}
use Rattle.layout.proofs.load_cords.Goals as goal

pub loop-v-init : goal.loop-v-init
loop-v-init c = loading_start c.requires.lists c.table_scale-scale.ensures.scale c.first_server-start.ensures.result.0

pub bounds-table-start : goal.bounds-table-start
bounds-table-start c = omega (arith, (server-here c.loop-v.invariant c.loop-v-test.true).there)

pub overflow_sub-level : goal.overflow_sub-level
overflow_sub-level c =
    let standing = server-here c.loop-v.invariant c.loop-v-test.true in
    omega (arith, standing.lowest, standing.highest)

pub overflow_cast-level : goal.overflow_cast-level
overflow_cast-level c = omega (arith, (server-here c.loop-v.invariant c.loop-v-test.true).highest)

pub bounds-table-start-in-loop-v : goal.bounds-table-start-in-loop-v
bounds-table-start-in-loop-v c = omega (arith, (server-here c.loop-v.invariant c.loop-v-test.true).there)

pub bounds-table-start-in-loop-v-2 : goal.bounds-table-start-in-loop-v-2
bounds-table-start-in-loop-v-2 c = omega (arith, (server-here c.loop-v.invariant c.loop-v-test.true).there)

pub bounds-table-start-in-loop-v-3 : goal.bounds-table-start-in-loop-v-3
bounds-table-start-in-loop-v-3 c = omega (arith, (server-here c.loop-v.invariant c.loop-v-test.true).there)

pub loop-c-init : goal.loop-c-init
loop-c-init c = server_begin c.loop-v.invariant c.loop-v-test.true refl refl refl refl c.need_of-need.ensures.need refl

pub bounds-table-word : goal.bounds-table-word
bounds-table-word c = omega (arith, (cord_fits c.loop-c.invariant c.loop-c-test.true).there)

pub overflow_cast-node : goal.overflow_cast-node
overflow_cast-node c = omega (arith, (cord_fits c.loop-c.invariant c.loop-c-test.true).node_short)

pub bounds-table-word-in-loop-c : goal.bounds-table-word-in-loop-c
bounds-table-word-in-loop-c c = (cord_fits c.loop-c.invariant c.loop-c-test.true).there

pub overflow_cast-cords : goal.overflow_cast-cords
overflow_cast-cords c = omega (arith, (cord_fits c.loop-c.invariant c.loop-c-test.true).server_short)

pub overflow_cast-cords-in-loop-c : goal.overflow_cast-cords-in-loop-c
overflow_cast-cords-in-loop-c c = omega (arith, (cord_fits c.loop-c.invariant c.loop-c-test.true).share_short)

pub offset_bounds-cords-c : goal.offset_bounds-cords-c
offset_bounds-cords-c c = omega (arith, (cord_fits c.loop-c.invariant c.loop-c-test.true).few)

pub bounds-cords-c : goal.bounds-cords-c
bounds-cords-c c = (cord_fits c.loop-c.invariant c.loop-c-test.true).in_cords

pub carried_by-requires : goal.carried_by-requires
carried_by-requires c =
    let fits = cord_fits c.loop-c.invariant c.loop-c-test.true in
    record { in_range = (fits.scaled, fits.share_most, fits.least_most) }

pub bounds-lows-c : goal.bounds-lows-c
bounds-lows-c c = (cord_fits c.loop-c.invariant c.loop-c-test.true).in_lows

pub carried_by-requires-in-loop-c : goal.carried_by-requires-in-loop-c
carried_by-requires-in-loop-c c =
    let fits = cord_fits c.loop-c.invariant c.loop-c-test.true in
    record { in_range = (fits.scaled, fits.share_most, fits.need_most) }

pub bounds-wants-c : goal.bounds-wants-c
bounds-wants-c c = (cord_fits c.loop-c.invariant c.loop-c-test.true).in_wants

pub carried_by-requires-in-loop-c-2 : goal.carried_by-requires-in-loop-c-2
carried_by-requires-in-loop-c-2 c =
    let fits = cord_fits c.loop-c.invariant c.loop-c-test.true in
    record { in_range = (fits.scaled, fits.share_most, fits.greatest_most) }

pub bounds-ceilings-c : goal.bounds-ceilings-c
bounds-ceilings-c c = (cord_fits c.loop-c.invariant c.loop-c-test.true).in_ceilings

pub loop-c-preserved : goal.loop-c-preserved
loop-c-preserved c =
    server-cord c.loop-c.invariant c.loop-c-test.true refl refl refl
    c.carried_by.ensures.result c.carried_by-in-loop-c.ensures.result c.carried_by-in-loop-c-2.ensures.result

pub bounds-needs-v : goal.bounds-needs-v
bounds-needs-v c = in_needs c.loop-c.invariant

pub loop-v-preserved : goal.loop-v-preserved
loop-v-preserved c = server-end c.loop-c.invariant (omega (arith, c.loop-c-test.false))

pub returns : goal.returns
returns c = record { laid_out = loading-end c.loop-v.invariant c.loop-v-test.false (omega arith) }
