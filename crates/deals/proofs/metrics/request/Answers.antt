-- `request` meets its contract: an active node's weight and starts are whole when its turn comes, since all active nodes beneath it had
-- their turns before, and the others have none.
use mathlib.Core.Path.{◌≡◌, refl, ap, ◌∙◌}
use Prim.Native.Nat.{ℕ, ◌+◌, ◌-◌}
use native.Mathlib.Omega.{arith}
use Rattle.figures.specs.Figures.{at, cell}
use Rattle.figures.proofs.Cells.{stored}
use Rattle.deals.specs.Passes.{cut_mark}
use Rattle.deals.proofs.Weighing.{credit_fits}
use Rattle.deals.proofs.Requesting.{request_start, request_end, request_fits, base_fits, row_here, request_turn}
use Rattle.deals.proofs.metrics.request.Goals as goal

read_again : (read start weight : ℕ) → read ≡ start + weight → read - start ≡ weight
read_again read start weight e = omega arith

pub loop-i-init : goal.loop-i-init
loop-i-init c = request_start c.requires.weights c.requires.requests

pub credit-requires-clause-no_overflow : goal.credit-requires-clause-no_overflow
credit-requires-clause-no_overflow c =
    (credit_fits c.loop-i.invariant.weigh c.loop-i-test.true c.from-n.ensures c.from-parent.ensures
    (omega (arith, c.take-weight.ensures.weight, c.from.ensures))).1

pub overflow_cast-start : goal.overflow_cast-start
overflow_cast-start c = omega (arith, request_fits c.loop-i.invariant c.loop-i-test.true c.from-n.ensures c.take-weight.ensures.weight)

pub overflow_add-requests : goal.overflow_add-requests
overflow_add-requests c = omega (arith, request_fits c.loop-i.invariant c.loop-i-test.true c.from-n.ensures c.take-weight.ensures.weight)

pub credit-requires-in-loop-i-clause-no_overflow : goal.credit-requires-in-loop-i-clause-no_overflow
credit-requires-in-loop-i-clause-no_overflow c =
    (base_fits c.loop-i.invariant c.loop-i-test.true c.from-n.ensures c.from-parent.ensures c.from-in-loop-i-2.ensures).1

pub loop-i-preserved : goal.loop-i-preserved
loop-i-preserved c =
    let asked : ℕ = at c.loop-i.bases c.from-n.result + c.take-weight.result in
    let row_read : cell (stored c.loop-i.requests c.from-n.result c.args.level asked) c.from-n.result c.args.level ≡ asked = row_here c.loop-i.invariant c.loop-i-test.true c.from-n.ensures asked in
    request_turn c.loop-i.invariant c.loop-i-test.true c.from-n.ensures
    c.take-weight.ensures.weight c.take-weight.ensures.taken c.from.ensures (read_again _ _ _ row_read)
    c.from-parent.ensures c.credit.ensures.credited
    (c.marked.ensures.result ∙ ap (λ (x : ℕ). cut_mark (at c.loop-i.cuts c.from-n.result) c.args.level x (at c.loop-i.wholes c.from-n.result)) c.from-in-loop-i.ensures)
    refl c.from-in-loop-i-2.ensures c.credit-in-loop-i.ensures.credited

pub returns : goal.returns
returns c =
    let both = request_end c.loop-i.invariant c.loop-i-test.false in
    record { weighed = both.0; requested = both.1 }
