-- A split worked by hand, computed from the definition: a changed definition fails here first.
use mathlib.Core.Path.{◌≡◌, refl}
use mathlib.Core.List.{[], ◌∷◌}
use Rattle.splits.specs.Split.{split}

-- 60 W over 50 and 210: each part floored by itself would lose a watt. An amount above the weights is given whole, and
-- nothing where no child has weight.
worked : (split 60 (50 ∷ 210 ∷ []) ≡ 11 ∷ 49 ∷ []) × (split 9 (1 ∷ 0 ∷ 3 ∷ []) ≡ 2 ∷ 0 ∷ 7 ∷ []) × (split 9 (0 ∷ 0 ∷ []) ≡ 0 ∷ 0 ∷ [])
unfolding split
worked = (refl, refl, refl)
