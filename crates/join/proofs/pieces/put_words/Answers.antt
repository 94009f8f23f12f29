-- `put_words` meets its contract: what is loaded stands in the middle of the list.
use mathlib.Core.Path.{refl}
use Rattle.join.proofs.PieceLaws.{put_loaded}
use Rattle.join.proofs.pieces.put_words.Goals as goal

pub returns : goal.returns
returns c = record { put = put_loaded _ _ _ _ _ c.requires.may_put c.load.ensures.loaded refl }
