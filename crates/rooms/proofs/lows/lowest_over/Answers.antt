-- `lowest_over` meets its contract: a node's sum is whole when its turn comes, since all nodes beneath it had their turns before.
use Prim.Native.Nat.{◌-◌, ◌<◌}
use lib.ListN.{get_or}
use mathlib.Core.Path.{refl, ◌∙◌}
use native.Mathlib.Omega.{arith}
use borrow.Author.Rules.{rules}
use Rattle.rooms.proofs.NodeWords.{parent_here, limit-here}
use Rattle.rooms.proofs.Gather.{gathered_start, gathered_end, gathered_sums, gathered_most, gathered_turn}
use Rattle.rooms.proofs.lows.lowest_over.Goals as goal

pub loop-n-init : goal.loop-n-init
loop-n-init c = gathered_start _ _ _ _

pub credit-requires : goal.credit-requires
credit-requires c =
    let inside : c.loop-n.n - 1 < c.args.node_count = omega (arith, c.loop-n.invariant.all, c.loop-n-test.true) in
    let above = parent_here c.args.percents c.args.w.now _ c.node_index-i.ensures.result refl in
    let rise = c.requires.nodes.0.rises (c.loop-n.n - 1) inside in
    let most = gathered_most c.requires.nodes.0.rises c.loop-n.invariant in
    record {
      node = omega (arith, c.loop-n.invariant.all, c.loop-n.invariant.size, c.requires.nodes.1, above, rise);
      no_overflow = omega (arith, most (c.loop-n.n - 1) inside, most (get_or c.args.w.now c.node_index-i.result 0 - 1) (omega (arith, c.loop-n.invariant.all, above, rise)), c.requires.sums_fit);
    }

pub loop-n-preserved : goal.loop-n-preserved
loop-n-preserved c =
    let limit = limit-here c.args.percents c.args.w.now _ c.node_index-i.ensures.result (c.from.ensures ∙ c.limit_at.ensures.result) in
    let above = parent_here c.args.percents c.args.w.now _ c.node_index-i.ensures.result refl in
    gathered_turn c.requires.nodes.0.rises c.loop-n.invariant c.loop-n-test.true c.requires.nodes.1 limit refl above c.noted-found.ensures.result c.credit.ensures.credited

pub returns : goal.returns
returns c =
    record {
      result = gathered_end c.loop-n.invariant (search rules);
      gathered = gathered_sums c.requires.nodes.0.rises c.loop-n.invariant (search rules);
    }
