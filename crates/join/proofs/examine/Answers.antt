-- `examine` meets its contract: what is told of a good table is kept.
use mathlib.Core.Path.{refl}
use Rattle.std.proofs.lemmas.Result.{err_from_is_err_and}
use Rattle.join.proofs.HutLaws.{good_told, refused_told, good_long, good_examined}
use borrow.Author.Rules.{rules}
use Rattle.join.proofs.examine.Goals as goal

pub returns-in_err-cords : goal.returns-in_err-cords
returns-in_err-cords c =
    let p = err_from_is_err_and c.from_residual.result c.from_residual.ensures.1 in
    record { is = rw (p.1, p.2) (refused_told _ c.check.ensures.result c.in_err-cords.was) }

pub bounds-table-0 : goal.bounds-table-0
bounds-table-0 c =
    let long = good_long _ (good_told _ c.check.ensures.result c.in_ok-cords.was) in
    search rules

pub returns : goal.returns
returns c =
    record {
      is =
          good_examined _ (good_told _ c.check.ensures.result c.in_ok-cords.was)
          c.node_count.ensures.count c.server_count.ensures.count refl c.servers_index.ensures.result.0;
    }
