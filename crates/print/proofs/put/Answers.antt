-- `put` meets its contract: what the count leaves out does not fit.
use mathlib.Core.Path.{refl}
use Rattle.print.proofs.Putting.{put_copied}
use Rattle.print.proofs.put.Goals as goal

pub returns : goal.returns
returns c = record { put = put_copied _ _ _ c.requires.start c.min-count.ensures c.copy_from_slice.ensures.after refl }
