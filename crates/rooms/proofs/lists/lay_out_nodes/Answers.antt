-- `lay_out_nodes` meets its contract: before each turn both lists have the figures of the nodes passed.
use Rattle.std.proofs.Common.{◌≡◌, length, refl, arith}
use Rattle.figures.proofs.Filled.{filled_one, filled_all}
use Rattle.rooms.specs.Limits.{limit, node_at, parent_of}
use Rattle.rooms.specs.Lists.{parents_of, limits_of}
use Rattle.rooms.specs.Credits.{NodesRead}
use Rattle.rooms.proofs.NodeWords.{words_two, node_fits, parent_here, limit-here}
use Rattle.rooms.proofs.Counts.{nodes_there, parents_are, limits_are, alike}
use Rattle.rooms.proofs.lists.lay_out_nodes.Goals as goal
use Rattle.rooms.proofs.lists.lay_out_nodes.Goals.{After-has_percents-percents}

-- The nodes stand in the table's words.
nodes : (c : After-has_percents-percents) → NodesRead c.has_percents-percents.result c.args.table.now (length c.args.parents.now)
nodes c = nodes_there c.args.table.now c.word.ensures.result c.has_percents-percents.ensures.result c.requires.sizes.0 c.requires.good

pub node_index-i-requires : goal.node_index-i-requires
node_index-i-requires c = record { place = omega (arith, (nodes (goal.at.node_index-i-requires c).After-has_percents-percents).few) }

pub offset_bounds-table-i : goal.offset_bounds-table-i
offset_bounds-table-i c =
    let there = node_fits _ _ _ c.node_index-i.ensures.result (nodes (goal.at.offset_bounds-table-i c).After-has_percents-percents) c.loop-m-test.true in
    omega (arith, there.0)

pub bounds-table-i : goal.bounds-table-i
bounds-table-i c =
    let there = node_fits _ _ _ c.node_index-i.ensures.result (nodes (goal.at.bounds-table-i c).After-has_percents-percents) c.loop-m-test.true in
    omega (arith, there.0, words_two c.has_percents-percents.result)

pub overflow_cast-parent : goal.overflow_cast-parent
overflow_cast-parent c =
    let n = nodes (goal.at.overflow_cast-parent c).After-has_percents-percents in
    record { fits = omega (arith, parent_here c.has_percents-percents.result c.args.table.now _ c.node_index-i.ensures.result refl, n.rises _ c.loop-m-test.true, n.few) }

pub limit_at-requires : goal.limit_at-requires
limit_at-requires c = record { there = node_fits _ _ _ c.node_index-i.ensures.result (nodes (goal.at.limit_at-requires c).After-has_percents-percents) c.loop-m-test.true }

pub bounds-limits-m : goal.bounds-limits-m
bounds-limits-m c = omega (arith, alike c.args.table.now c.requires.good c.requires.sizes.0 c.requires.sizes.1)

pub loop-m-preserved : goal.loop-m-preserved
loop-m-preserved c =
    let sizes : length c.args.parents.now ≡ length c.args.limits.now = alike c.args.table.now c.requires.good c.requires.sizes.0 c.requires.sizes.1 in (
      filled_one _ c.loop-m.invariant.0 c.loop-m-test.true (parent_here c.has_percents-percents.result c.args.table.now _ c.node_index-i.ensures.result refl),
      filled_one _ c.loop-m.invariant.1 (omega (arith, c.loop-m-test.true, sizes)) (limit-here c.has_percents-percents.result c.args.table.now _ c.node_index-i.ensures.result c.limit_at.ensures.result),
    )

pub returns : goal.returns
unfolding parents_of limits_of
returns c =
    record {
      laid_out =
          λ r end e. (
            filled_all (length r.nodes) (parent_of r) c.loop-m.invariant.0 (c.requires.sizes.0 r end e) (omega (arith, c.requires.sizes.0 r end e))
                (λ i h. parents_are c.args.table.now c.word.ensures.result c.has_percents-percents.ensures.result c.requires.sizes.0 r end e i (omega (arith, c.requires.sizes.0 r end e))),
            filled_all (length r.nodes) (λ m. limit (node_at r m)) c.loop-m.invariant.1 (c.requires.sizes.1 r end e) (omega (arith, c.requires.sizes.0 r end e))
                (λ i h. limits_are c.args.table.now c.word.ensures.result c.has_percents-percents.ensures.result c.requires.sizes.0 r end e i (omega (arith, c.requires.sizes.0 r end e))),
          );
    }
