-- `note_cords` meets its contract: before each turn the cords passed are judged, and noted on their nodes.
use mathlib.Core.Path.{◌≡◌, refl}
use mathlib.Core.Bool.{Bool, true, false, not}
use Prim.Native.Nat.{ℕ}
use native.Mathlib.Omega.{arith}
use lib.ListN.{length}
use Rattle.std.specs.Prelude.{Option, None, Some}
use Rattle.std.specs.Option.{is_some}
use Rattle.figures.specs.Figures.{at}
use Rattle.judge_totals.specs.Totals.{notes_in}
use Rattle.judge_totals.proofs.Noted.{Sized}
use Rattle.judge_totals.proofs.Noting.{AboveNext, here, stays}
use Rattle.judge_totals.proofs.Walking.{walking_start, walking_server, server_begin, judged-all, server-end, cord_fits, judged_below, server-cord}
use Rattle.judge_totals.proofs.note_cords.Goals as goal
use Rattle.judge_totals.proofs.note_cords.Goals.{then-is_none+then-want-grant, else-is_none, else-is_none-via-then-is_none+else-want-grant, else-is_none-via-else-is_none}

pub loop-v-init : goal.loop-v-init
loop-v-init c =
    let sized : Sized (length c.args.given.now) (notes_in c.args.given.now c.args.raised.now c.args.wanting.now)
    = record { given = omega arith; raised = c.requires.lengths.1; wanting = c.requires.lengths.2 } in
    walking_start c.requires.lengths.0 c.requires.good.0 c.requires.good.1 c.requires.sizes.0 c.requires.sizes.1 refl sized c.requires.unnoted.0 c.requires.unnoted.1
    c.first_server-start.ensures.result.0

pub bounds-table-start : goal.bounds-table-start
bounds-table-start c = omega (arith, (walking_server c.loop-v.invariant c.loop-v-test.true).there)

pub overflow_cast-rank : goal.overflow_cast-rank
overflow_cast-rank c = omega (arith, (walking_server c.loop-v.invariant c.loop-v-test.true).highest)

pub bounds-table-start-in-loop-v : goal.bounds-table-start-in-loop-v
bounds-table-start-in-loop-v c = omega (arith, (walking_server c.loop-v.invariant c.loop-v-test.true).there)

pub bounds-table-start-in-loop-v-2 : goal.bounds-table-start-in-loop-v-2
bounds-table-start-in-loop-v-2 c = omega (arith, (walking_server c.loop-v.invariant c.loop-v-test.true).there)

pub bounds-table-start-in-loop-v-3 : goal.bounds-table-start-in-loop-v-3
bounds-table-start-in-loop-v-3 c = omega (arith, (walking_server c.loop-v.invariant c.loop-v-test.true).there)

pub loop-c-init : goal.loop-c-init
loop-c-init c = rw c.loop-v.invariant.turns.all_given (server_begin c.loop-v.invariant c.loop-v-test.true refl refl c.need_of-need.ensures.need refl refl)

pub bounds-table-word : goal.bounds-table-word
bounds-table-word c = (cord_fits c.loop-c.invariant c.loop-c-test.true).there

pub carried_by-low-requires : goal.carried_by-low-requires
carried_by-low-requires c =
    let fits = cord_fits c.loop-c.invariant c.loop-c-test.true in
    record { in_range = (fits.scaled, fits.share_most, fits.least_most) }

pub carried_by-want-requires : goal.carried_by-want-requires
carried_by-want-requires c =
    let fits = cord_fits c.loop-c.invariant c.loop-c-test.true in
    record { in_range = (fits.scaled, fits.share_most, fits.need_most) }

pub bounds-grants-c : goal.bounds-grants-c
bounds-grants-c c = (cord_fits c.loop-c.invariant c.loop-c-test.true).in_grants

pub returns-then-grant-low : goal.returns-then-grant-low
returns-then-grant-low c =
    record {
      judged = rw (← c.loop-v.invariant.turns.all_given) (judged_below c.loop-c.invariant c.loop-c-test.true c.carried_by-low.ensures.result c.if-grant-low.true);
    }

pub bounds-table-word-in-loop-c : goal.bounds-table-word-in-loop-c
bounds-table-word-in-loop-c c = omega (arith, (cord_fits c.loop-c.invariant c.loop-c-test.true).there)

pub note_cord-requires-clause-node : goal.note_cord-requires-clause-node
note_cord-requires-clause-node c =
    let node = (cord_fits c.loop-c.invariant c.loop-c-test.true).node_most in
    let size = c.loop-c.invariant.walking.turns.size in
    (omega (arith, node, size.given), omega (arith, node, size.raised), omega (arith, node, size.wanting))

pub note_cord-requires-clause-sum_fits : goal.note_cord-requires-clause-sum_fits
note_cord-requires-clause-sum_fits c = (cord_fits c.loop-c.invariant c.loop-c-test.true).small _

none_found : (found : Option ℕ) (t : Bool) → is_some found ≡ not t → t ≡ true → found ≡ None
none_found None t is e = refl
none_found (Some place) true is e = absurd (cc)
none_found (Some place) false is e = absurd (cc)

some_found : (found : Option ℕ) (t : Bool) → is_some found ≡ not t → t ≡ false → found ≡ None → ⊥
some_found None true is e n = absurd (cc)
some_found None false is e n = absurd (cc)
some_found (Some place) t is e n = absurd (cc)

pub loop-c-preserved : goal.loop-c-preserved
loop-c-preserved c =
    let turned : AboveNext c.loop-c.above c.carried_by-want.result (at c.args.grants.now c.loop-c.c) c.loop-c.c c.if-is_none.above = elim c.if-is_none.branch [
      | then-is_none+then-want-grant w ↦ here (none_found c.loop-c.above _ c.is_none.ensures w.if-is_none.true) w.if-want-grant.true w.above-is
      | else-is_none w ↦ stays
          (λ n. elim w.else-is_none.branch [
            | else-is_none-via-then-is_none+else-want-grant w' ↦ w'.if-want-grant.false
            | else-is_none-via-else-is_none w' ↦ absurd (some_found c.loop-c.above _ c.is_none.ensures w'.if-is_none.false n)
          ])
          w.above-is
    ] in
    server-cord c.loop-c.invariant c.loop-c-test.true refl c.carried_by-low.ensures.result c.carried_by-want.ensures.result refl c.if-grant-low.false
    c.note_cord.ensures.word turned c.note_cord.ensures.noted

pub loop-v-preserved : goal.loop-v-preserved
loop-v-preserved c = rw (← c.loop-v.invariant.turns.all_given) (server-end c.loop-c.invariant (omega (arith, c.loop-c-test.false)))

pub returns : goal.returns
returns c = record { judged = judged-all c.loop-v.invariant c.loop-v-test.false refl }
