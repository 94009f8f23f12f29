-- The two ways in which a split is made, short and long: the same parts by numbers of so many bits, that lose what is above them.
use Rattle.std.specs.Prelude.{List, [], ◌∷◌, ℕ, ◌+◌, ◌-◌, ◌*◌, ◌/◌, ◌%◌, ◌^◌}
use Rattle.figures.specs.Figures.{total, sum_of}

-- floor(X × C / E), with the product in so many bits. A quotient by 0 is 0.
abbrev pub quotient_in : ℕ → ℕ → ℕ → ℕ → ℕ
quotient_in bits amount upto whole = amount * upto % 2 ^ bits / whole

-- The parts of children by their weights, where those before them sum to `before`: what each quotient has over the one before.
unfoldable pub parts_in : ℕ → ℕ → ℕ → ℕ → List ℕ → List ℕ
parts_in bits amount whole before [] = []
parts_in bits amount whole before (weight ∷ rest) =
    (quotient_in bits amount (before + weight) whole - quotient_in bits amount before whole)
    ∷ parts_in bits amount whole (before + weight) rest

-- The split of an amount among children of given weights, made in numbers of so many bits.
unfoldable pub split_in : ℕ → ℕ → List ℕ → List ℕ
unfolding parts_in total
split_in bits amount weights = parts_in bits amount (sum_of weights) 0 weights
