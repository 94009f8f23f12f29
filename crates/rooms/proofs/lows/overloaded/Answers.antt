-- `overloaded` meets its contract: a node's sum with all beneath it is the lows beneath it, and the limits are the table's.
use mathlib.Core.Path.{refl}
use native.Mathlib.Omega.{arith}
use lib.ListN.{get_or, replicate}
use Rattle.rooms.specs.Table.{most_nodes}
use Rattle.figures.proofs.Filled.{zeros-at}
use Rattle.figures.proofs.Credits.{sum_zeros}
use Rattle.rooms.proofs.Places.{layout, nodes-read}
use Rattle.rooms.proofs.Found.{overloaded_from, lows-from}
use Rattle.rooms.proofs.lows.overloaded.Goals as goal

pub bounds-w-0 : goal.bounds-w-0
bounds-w-0 c = omega (arith, (layout _ _ _ _ refl c.requires.good.0.is).there)

pub bounds-w-1 : goal.bounds-w-1
bounds-w-1 c = omega (arith, (layout _ _ _ _ refl c.requires.good.0.is).there)

pub lowest_over-requires : goal.lowest_over-requires
lowest_over-requires c =
    let is = layout _ _ _ _ refl c.requires.good.0.is in
    let zero = sum_zeros (get_or c.args.w.now 1 0) (replicate most_nodes 0) (zeros-at most_nodes) in
    record {
      nodes = (nodes-read _ _ _ _ _ is c.has_percents-percents.ensures.result refl, omega (arith, is.most, c.requires.good.1));
      sums_fit = (omega (arith, c.requires.credited.grow c.requires.good.0.value _ c.requires.good.0.is));
    }

pub returns : goal.returns
returns c =
    record {
      result = λ q j e. overloaded_from _ _ _ _ c.has_percents-percents.ensures.result refl q j e (c.requires.credited.are q j e) c.lowest_over.ensures.result;
      sums = λ q j e. lows-from _ _ _ c.has_percents-percents.ensures.result refl q j e (c.requires.credited.are q j e) c.lowest_over.ensures.gathered;
    }
