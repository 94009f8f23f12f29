-- `put_servers` meets its contract: what was put is changed in its place.
use mathlib.Core.Path.{refl}
use Rattle.words.specs.Bytes.{words_of}
use Rattle.join.specs.Pieces.{renumbered_cords}
use Rattle.join.proofs.PieceLaws.{cords-length, piece_below, put_changed}
use Rattle.join.proofs.pieces.put_servers.Goals as goal

pub renumber_cords-requires : goal.renumber_cords-requires
renumber_cords-requires c = record { fits = piece_below 2147483648 c.args.span.start c.args.span.end (words_of c.args.bytes.now) c.put_words-end.ensures.put c.requires.fits }

pub returns : goal.returns
returns c =
    record {
      put =
          put_changed c.put_words-end.ensures.put (renumbered_cords c.args.shift.up c.args.shift.down 0) (cords-length c.args.shift.up c.args.shift.down 0 _)
          c.renumber_cords.ensures.is refl;
    }
