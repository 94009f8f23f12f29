-- `deal_cords` meets its contract: before each turn the cords of the entries passed have their grants and are served on their nodes.
use mathlib.Core.Path.{refl}
use native.Mathlib.Omega.{arith}
use Rattle.deals.proofs.CordTurns.{cords_start, cords-end, cord_may_serve, grant_most, cord_next}
use Rattle.deals.proofs.dealing.deal_cords.Goals as goal

pub loop-cord-init : goal.loop-cord-init
loop-cord-init c =
    cords_start
    (record {
      cords = c.requires.cords;
      amount_most = λ n has. (c.requires.in_range has.entry n has.within has.hangs).0;
      amount_inside = λ n has. (c.requires.in_range has.entry n has.within has.hangs).1;
      wholes_most = λ n has. (c.requires.in_range has.entry n has.within has.hangs).2;
      room = λ n has. (c.requires.in_range has.entry n has.within has.hangs).4;
    })
    c.requires.sizes.3
    c.requires.sizes.1
    c.requires.sizes.2
    (λ n has. (c.requires.in_range has.entry n has.within has.hangs).3)

pub serve_by_division-watts-requires : goal.serve_by_division-watts-requires
serve_by_division-watts-requires c = record { may_serve = cord_may_serve c.loop-cord.invariant c.loop-cord-test.true c.from-c.ensures c.from-p.ensures _ c.from.ensures }

pub overflow_add-grants : goal.overflow_add-grants
overflow_add-grants c =
    let most = grant_most c.loop-cord.invariant c.loop-cord-test.true c.from-c.ensures c.from-p.ensures _ c.from.ensures c.serve_by_division-watts.ensures.served in
    omega (arith, most)

pub loop-cord-preserved : goal.loop-cord-preserved
loop-cord-preserved c = cord_next c.loop-cord.invariant c.loop-cord-test.true c.from-c.ensures c.from-p.ensures _ c.from.ensures c.serve_by_division-watts.ensures.served refl

pub returns : goal.returns
returns c = record { cords_dealt = cords-end c.loop-cord.invariant c.loop-cord-test.false }
