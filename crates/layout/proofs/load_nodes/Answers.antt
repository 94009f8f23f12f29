-- `load_nodes` meets its contract: a good table's limits are no less than the lows beneath its nodes.
use Rattle.layout.proofs.Spare.{spare_asked, nodes-loaded}
use Rattle.layout.proofs.load_nodes.Goals as goal

pub spare_limits-requires : goal.spare_limits-requires
spare_limits-requires c = record { within = spare_asked _ c.args.beneath.now c.requires.lists.3 c.lay_out_nodes.ensures.laid_out c.requires.good c.requires.lists.0 }

pub returns : goal.returns
returns c = record { laid_out = nodes-loaded _ c.args.beneath.now c.requires.lists.3 c.lay_out_nodes.ensures.laid_out c.spare_limits.new.limits c.spare_limits.ensures.spared }
