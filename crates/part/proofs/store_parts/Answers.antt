-- `store_parts` meets its contract: what is admitted is stored, side by side.
use Prim.Native.Nat.{◌/◌}
use lib.ListN.{length}
use Rattle.std.proofs.Common.{Ok, Err}
use Rattle.std.proofs.lemmas.Result.{err_from_is_err_and}
use Rattle.words.specs.Bytes.{words_of}
use Rattle.part.specs.Outcome.{parting}
use Rattle.part.specs.Sides.{Halved}
use Rattle.part.proofs.SidesMade.{decided, parts_stored, refused_stored}
use Rattle.part.proofs.store_parts.Goals as goal
use Rattle.part.proofs.store_parts.Goals.{In_ok-one}

sides : (c : In_ok-one)
    → Halved (words_of c.args.table.now) (parting (words_of c.args.table.now) c.args.nodes c.args.servers (length c.args.first.now / 4) (length c.args.second.now / 4))
    (length c.args.first.now / 4) (length c.args.second.now / 4) c.in_ok-one.one c.in_ok-one.two
sides c =
    decided c.args.table.now c.args.words.now c.args.nodes c.args.servers _ _ c.load-count.ensures.count c.load-count.ensures.loaded c.requires.deciding
    (Ok (c.in_ok-one.one, c.in_ok-one.two)) c.in_ok-one.ensures.admits

pub returns-in_err-one : goal.returns-in_err-one
returns-in_err-one c =
    let p = err_from_is_err_and c.from_residual.result c.from_residual.ensures.1 in
    record {
      stored =
          rw (p.1, p.2)
          (refused_stored _ _ _
          (decided c.args.table.now c.args.words.now c.args.nodes c.args.servers _ _ c.load-count.ensures.count c.load-count.ensures.loaded c.requires.deciding
          (Err c.in_err-one.field-0.0) c.in_err-one.ensures.admits));
    }

pub store_side-requires-clause-fits : goal.store_side-requires-clause-fits
store_side-requires-clause-fits c = (sides (goal.at.store_side-requires-clause-fits c).In_ok-one).first_fits

pub store_side-requires-2-clause-fits : goal.store_side-requires-2-clause-fits
store_side-requires-2-clause-fits c = (sides (goal.at.store_side-requires-2-clause-fits c).In_ok-one).second_fits

pub returns : goal.returns
returns c =
    record {
      stored =
          parts_stored _ c.args.first.now c.args.second.now (sides (goal.at.returns c).In_ok-one)
          (c.store_side.ensures.count, c.store_side.ensures.stored) (c.store_side-2.ensures.count, c.store_side-2.ensures.stored);
    }
