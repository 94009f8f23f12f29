-- The split of an amount by weights.
use Rattle.std.specs.Prelude.{List, [], ◌∷◌, ℕ, ◌+◌, ◌-◌, ◌*◌, ◌/◌}
use Rattle.figures.specs.Figures.{total, sum_of}

-- What a child gets of an amount X, where the weights sum to E, those before it to C(k − 1), and its own makes that C(k):
-- floor(X × C(k) / E) − floor(X × C(k − 1) / E). A quotient by 0 is 0: nothing if E = 0.
unfoldable pub part : ℕ → ℕ → ℕ → ℕ → ℕ
part amount whole before weight = amount * (before + weight) / whole - amount * before / whole

-- The parts of children by their weights, where those before them sum to `before`.
unfoldable pub parts_after : ℕ → ℕ → ℕ → List ℕ → List ℕ
unfolding part
parts_after amount whole before [] = []
parts_after amount whole before (weight ∷ rest) = part amount whole before weight ∷ parts_after amount whole (before + weight) rest

-- The split of an amount among children of given weights.
unfoldable pub split : ℕ → List ℕ → List ℕ
unfolding parts_after total
split amount weights = parts_after amount (sum_of weights) 0 weights
