-- Lists of bounded numbers.
use Rattle.std.specs.Prelude.{cond, List, [], ◌∷◌, ℕ, suc, ◌<◌, ltb, get_or}

-- Every entry of a list is below a bound. (Past its end an entry counts as 0.)
abbrev pub AllBelow : ℕ → List ℕ → Type 0
AllBelow bound l = (i : ℕ) → get_or l i 0 < bound

-- The index of the first entry that is not below a bound; the length, if each is.
unfoldable pub first_not_below : ℕ → List ℕ → ℕ
first_not_below bound [] = 0
first_not_below bound (entry ∷ rest) = cond (ltb entry bound) (suc (first_not_below bound rest)) 0
