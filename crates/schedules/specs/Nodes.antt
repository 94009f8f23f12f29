-- The words of a schedule's nodes. Cited by contracts of private functions alone.
use Rattle.std.specs.Prelude.{List, [], ◌∷◌, ℕ}
use Rattle.schedules.specs.Schedule.{rating}
use Rattle.schedules.specs.declared.Entry.{Entry}

-- Parent and rating of each.
unfoldable pub entry_words : List Entry → List ℕ
entry_words [] = []
entry_words (e ∷ rest) = e.parent ∷ rating e ∷ entry_words rest
