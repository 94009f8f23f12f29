-- `put_nodes` meets its contract: what was put is changed in its place.
use mathlib.Core.Path.{refl}
use Prim.Native.Nat.{◌-◌}
use Rattle.words.specs.Bytes.{words_of}
use Rattle.join.specs.Pieces.{renumbered_every}
use Rattle.join.proofs.PieceLaws.{every_length, piece_below, put_changed}
use Rattle.join.proofs.pieces.put_nodes.Goals as goal

pub renumber_every-requires : goal.renumber_every-requires
renumber_every-requires c = record { fits = (c.requires.fits.0, piece_below 2147483648 c.args.span.start c.args.span.end (words_of c.args.bytes.now) c.put_words-end.ensures.put c.requires.fits.1) }

pub returns : goal.returns
returns c =
    record {
      put =
          put_changed c.put_words-end.ensures.put (renumbered_every (c.args.width - 1) c.args.shift.up c.args.shift.down 0)
          (every_length (c.args.width - 1) c.args.shift.up c.args.shift.down 0 _) c.renumber_every.ensures.is refl;
    }
