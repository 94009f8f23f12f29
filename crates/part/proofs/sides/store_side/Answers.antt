-- `store_side` meets its contract: the table is put together whole, and stored whole.
use Rattle.part.proofs.SidesMade.{side_stored}
use Rattle.part.proofs.sides.store_side.Goals as goal

pub returns : goal.returns
returns c =
    let both = side_stored c.args.table.now c.args.side c.requires.fits c.args.words.now c.args.output.now c.put_side-count.ensures.put c.requires.space.1 c.store.ensures.stored in
    record { count = both.0; stored = both.1 }
