-- `note_nodes` meets its contract: when a node has its turn, all nodes beneath it had theirs, so that its notes are whole.
use mathlib.Core.Path.{◌≡◌}
use mathlib.Core.Bool.{cond}
use Prim.Native.Nat.{◌-◌, ◌<◌}
use native.Mathlib.Omega.{arith}
use lib.Dec.{ltb}
use lib.ListN.{length}
use borrow.Author.Tests.{lt-ltb, le-ltb}
use Rattle.std.specs.Prelude.{Some}
use Rattle.figures.specs.Figures.{at}
use Rattle.rooms.proofs.Gather.{gathered_most}
use Rattle.judge_totals.specs.Totals.{notes_in}
use Rattle.judge_totals.proofs.Searching.{place_within}
use Rattle.judge_totals.proofs.Noted.{Sized}
use Rattle.judge_totals.proofs.Noting.{nodes_start, nodes_next, over-end, nodes-end}
use Rattle.judge_totals.proofs.note_nodes.Goals as goal
use Rattle.judge_totals.proofs.note_nodes.Goals.{then-limit-has, else-limit-has}

pub loop-n-init : goal.loop-n-init
loop-n-init c = nodes_start _ _ (record { given = c.requires.lengths.0; raised = c.requires.lengths.1; wanting = c.requires.lengths.2 })

pub note-requires-clause-sum_fits : goal.note-requires-clause-sum_fits
note-requires-clause-sum_fits c =
    let here : c.loop-n.n - 1 < length c.args.parents.now = omega (arith, c.loop-n.invariant.all) in
    let rise = c.requires.node_lists.rises (c.loop-n.n - 1) here in
    let most = gathered_most c.requires.node_lists.rises c.loop-n.invariant.gathered in
    omega (arith, most (c.loop-n.n - 1) here, most (c.from.result - 1) (omega (arith, rise, here, c.from.ensures)), c.requires.sums_fit)

pub loop-n-preserved : goal.loop-n-preserved
loop-n-preserved c =
    let sized : Sized (length c.args.parents.now) (notes_in c.args.given.now c.args.raised.now c.args.wanting.now)
    = record { given = c.requires.lengths.0; raised = c.requires.lengths.1; wanting = c.requires.lengths.2 } in
    let number_found : c.if-limit-has.over ≡ cond (ltb c.from-limit.result (at c.loop-n.given (c.loop-n.n - 1))) (Some (c.loop-n.n - 1)) c.loop-n.over = elim c.if-limit-has.branch [
      | then-limit-has w ↦ rw (lt-ltb _ _ w.if-limit-has.true) w.over-is
      | else-limit-has w ↦ rw (le-ltb _ _ w.if-limit-has.false) w.over-is
    ] in
    nodes_next c.requires.node_lists sized c.loop-n.invariant c.loop-n-test.true c.from-limit.ensures c.from.ensures c.held_back-high.ensures.result number_found c.note.ensures.noted

pub returns-clause-noted : goal.returns-clause-noted
returns-clause-noted c = nodes-end c.loop-n.invariant c.loop-n-test.false

pub returns-clause-result : goal.returns-clause-result
returns-clause-result c = over-end c.loop-n.invariant c.loop-n-test.false

pub returns-clause-within : goal.returns-clause-within
returns-clause-within c = place_within _ _ c.loop-n.over (over-end c.loop-n.invariant c.loop-n-test.false)
