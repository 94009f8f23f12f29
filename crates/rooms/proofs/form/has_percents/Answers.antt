-- `has_percents` meets its contract: it says what a version does.
use mathlib.Core.Path.{refl}
use Rattle.rooms.specs.Table.{form_of}
use Rattle.rooms.proofs.form.has_percents.Goals as goal

pub returns : goal.returns
unfolding form_of
returns c = record { result = refl }
