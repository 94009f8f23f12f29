-- `table_scale` meets its contract: the version says the scale.
use Rattle.rooms.proofs.Counts.{scale_told}
use Rattle.rooms.proofs.lists.table_scale.Goals as goal

pub returns : goal.returns
returns c = record { scale = scale_told _ c.word.ensures.result c.scale_of.ensures.result }
