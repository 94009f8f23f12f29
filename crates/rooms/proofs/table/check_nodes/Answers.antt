-- `check_nodes` tells a row of nodes: after each turn what is left of the row tells the same as the whole did.
use native.Mathlib.Numerals.{add-one}
use Rattle.std.proofs.Common.{◌≡◌, ◌+◌, ◌-◌, sym, ◌∙◌, arith}
use Rattle.rooms.proofs.Steps.{passed_on, row_end, row_stop, row_next, nothing-told}
use Rattle.rooms.proofs.table.check_nodes.Goals as goal

pub returns-in_err-next : goal.returns-in_err-next
returns-in_err-next c = record { result = passed_on c.from_residual.ensures.1 (row_stop _ _ _ _ _ _ _ (omega arith) c.loop-own.invariant c.in_err-next.ensures.result ∙ nothing-told _) }

pub loop-own-preserved : goal.loop-own-preserved
loop-own-preserved c =
    let l : c.args.count + 1 - c.loop-own.own - 1 ≡ c.args.count + 1 - (c.loop-own.own + 1) = omega arith in
    rw l at (row_next _ _ _ _ _ _ (omega arith) c.loop-own.invariant c.in_ok-next.ensures.result (λ _. sym (add-one _)))

pub returns : goal.returns
returns c = record { result = row_end _ _ _ _ _ _ _ (omega arith) c.loop-own.invariant ∙ nothing-told _ }

pub returns-in_ok-next : goal.returns-in_ok-next
returns-in_ok-next c =
    record {
      result =
          row_end _ _ _ _ _ _ _ (omega arith)
          (row_next _ _ _ _ _ _ (omega arith) c.loop-own.invariant c.in_ok-next.ensures.result (λ _. sym (add-one _)))
          ∙ nothing-told _;
    }
