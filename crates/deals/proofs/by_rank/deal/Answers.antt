-- `deal` meets its contract: before each turn the ranks passed are dealt.
use mathlib.Core.Path.{◌≡◌, ◌∙◌}
use Prim.Native.Nat.{ℕ, ◌-◌}
use native.Mathlib.Omega.{arith}
use lib.ListN.{length, replicate}
use Rattle.rooms.specs.Table.{most_nodes, highest_rank}
use Rattle.figures.proofs.Cells.{zeros_rows, zeros_cells}
use Rattle.figures.proofs.Filled.{zeros-at}
use Rattle.figures.proofs.Fronts.{equal_length}
use Rattle.deals.proofs.RankLoop.{figures_length, level_row, loop_start, loop_end, loop_skip, add_cords_asks, Summed, summed, request_asks, deal_nodes_asks, deal_cords_asks, loop_turn}
use Rattle.deals.proofs.by_rank.deal.Goals as goal

list-sized : length {A = ℕ} (replicate figures_length 0) ≡ figures_length
list-sized = equal_length {A = ℕ} figures_length 0

pub loop-level-init : goal.loop-level-init
loop-level-init c =
    loop_start c.requires.lists.0 c.requires.lists.1 c.requires.lists.2 (record { full = zeros_rows most_nodes highest_rank; blank = λ m j _ _ _. zeros_cells most_nodes highest_rank m j })
    list-sized (λ n _. zeros-at figures_length n) list-sized list-sized list-sized list-sized

pub add_cords-requires-clause-cords : goal.add_cords-requires-clause-cords
add_cords-requires-clause-cords c =
    let row = level_row c.args.levels.now (c.loop-level.level - 1) c.from-from.ensures c.from-to.ensures c.from-count.ensures c.if-from-to.true in
    (add_cords_asks c.requires.lists.0 c.loop-level.invariant c.loop-level-test.true row).0

pub request-requires : goal.request-requires
request-requires c =
    let row = level_row c.args.levels.now (c.loop-level.level - 1) c.from-from.ensures c.from-to.ensures c.from-count.ensures c.if-from-to.true in
    let sums : Summed c.requires.lists.0 c.loop-level.invariant c.loop-level-test.true row c.add_cords.new.bases c.add_cords.new.wholes = summed c.requires.lists.0 c.loop-level.invariant c.loop-level-test.true row
    c.add_cords.auto.bases c.add_cords.auto.wholes c.add_cords.ensures.summed in
    let both = request_asks c.requires.lists.0 c.loop-level.invariant c.loop-level-test.true row sums in
    record { weights = both.0; requests = both.1 }

pub deal_nodes-requires-clause-in_range : goal.deal_nodes-requires-clause-in_range
deal_nodes-requires-clause-in_range c =
    let row = level_row c.args.levels.now (c.loop-level.level - 1) c.from-from.ensures c.from-to.ensures c.from-count.ensures c.if-from-to.true in
    let sums : Summed c.requires.lists.0 c.loop-level.invariant c.loop-level-test.true row c.add_cords.new.bases c.add_cords.new.wholes = summed c.requires.lists.0 c.loop-level.invariant c.loop-level-test.true row
    c.add_cords.auto.bases c.add_cords.auto.wholes c.add_cords.ensures.summed in
    (deal_nodes_asks c.requires.lists.0 c.loop-level.invariant c.loop-level-test.true row sums c.request.ensures.weighed c.request.ensures.requested).1.1

pub deal_cords-requires : goal.deal_cords-requires
deal_cords-requires c =
    let row = level_row c.args.levels.now (c.loop-level.level - 1) c.from-from.ensures c.from-to.ensures c.from-count.ensures c.if-from-to.true in
    let sums : Summed c.requires.lists.0 c.loop-level.invariant c.loop-level-test.true row c.add_cords.new.bases c.add_cords.new.wholes = summed c.requires.lists.0 c.loop-level.invariant c.loop-level-test.true row
    c.add_cords.auto.bases c.add_cords.auto.wholes c.add_cords.ensures.summed in
    let before_sized = c.deal_nodes.auto.before ∙ c.loop-level.invariant.before_size in
    let dealt_sized = c.deal_nodes.auto.dealt ∙ c.loop-level.invariant.dealt_size in
    let all = deal_cords_asks c.requires.lists.0 c.loop-level.invariant c.loop-level-test.true row sums c.request.ensures.weighed c.request.ensures.requested
    c.deal_nodes.ensures.nodes_dealt (c.request.auto.wholes ∙ sums.wholes_size) (c.deal_nodes.auto.amounts ∙ c.request.auto.weights ∙ c.loop-level.invariant.amounts_size)
    before_sized dealt_sized in
    record { cords = all.0; sizes = all.1.0; in_range = all.1.1 }

pub loop-level-preserved-then-from-to : goal.loop-level-preserved-then-from-to
loop-level-preserved-then-from-to c =
    let row = level_row c.args.levels.now (c.loop-level.level - 1) c.from-from.ensures c.from-to.ensures c.from-count.ensures c.if-from-to.true in
    let sums : Summed c.requires.lists.0 c.loop-level.invariant c.loop-level-test.true row c.add_cords.new.bases c.add_cords.new.wholes = summed c.requires.lists.0 c.loop-level.invariant c.loop-level-test.true row
    c.add_cords.auto.bases c.add_cords.auto.wholes c.add_cords.ensures.summed in
    let before_sized = c.deal_nodes.auto.before ∙ c.loop-level.invariant.before_size in
    let dealt_sized = c.deal_nodes.auto.dealt ∙ c.loop-level.invariant.dealt_size in
    loop_turn c.requires.lists.0 c.loop-level.invariant c.loop-level-test.true row sums c.request.ensures.weighed c.request.ensures.requested
    c.deal_nodes.ensures.nodes_dealt (c.request.auto.wholes ∙ sums.wholes_size) (c.deal_nodes.auto.amounts ∙ c.request.auto.weights ∙ c.loop-level.invariant.amounts_size)
    before_sized dealt_sized
    c.deal_cords.ensures.cords_dealt c.request.auto.left c.request.auto.cuts c.deal_cords.auto.grants
    (c.request.auto.bases ∙ sums.bases_size) (c.deal_cords.auto.before ∙ before_sized) (c.deal_cords.auto.dealt ∙ dealt_sized)

pub loop-level-preserved : goal.loop-level-preserved
loop-level-preserved c =
    loop_skip c.requires.lists.0 c.loop-level.invariant c.loop-level-test.true c.from-from.ensures c.from-to.ensures (omega (arith, c.if-from-to.false))

pub returns : goal.returns
returns c = record { dealt = loop_end c.requires.lists.0 c.loop-level.invariant c.loop-level-test.false }
