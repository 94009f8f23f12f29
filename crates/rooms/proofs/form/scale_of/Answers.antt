-- `scale_of` meets its contract: it says what a version does.
use borrow.Author.Tests.{lt-ltb, le-ltb}
use Rattle.rooms.specs.Table.{form_of}
use Rattle.rooms.proofs.form.scale_of.Goals as goal

pub returns-then-version-gt2 : goal.returns-then-version-gt2
unfolding form_of
returns-then-version-gt2 c = record { result = rw (lt-ltb 2 _ c.if-version-gt2.true) }

pub returns-else-version-gt2 : goal.returns-else-version-gt2
unfolding form_of
returns-else-version-gt2 c = record { result = rw (le-ltb 2 _ c.if-version-gt2.false) }
