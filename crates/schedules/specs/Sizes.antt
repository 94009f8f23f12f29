-- The standard ampere sizes of breakers: NEC 240.6(A), 2020 edition.
use Rattle.std.specs.Prelude.{Bool, false, ◌||◌, List, [], ◌∷◌, ℕ, eqb}

-- The 37 sizes.
unfoldable pub sizes : List ℕ
sizes =
    15 ∷ 20 ∷ 25 ∷ 30 ∷ 35 ∷ 40 ∷ 45 ∷ 50 ∷ 60 ∷ 70 ∷ 80 ∷ 90 ∷ 100 ∷ 110 ∷ 125 ∷ 150 ∷ 175 ∷ 200 ∷ 225 ∷ 250
    ∷ 300 ∷ 350 ∷ 400 ∷ 450 ∷ 500 ∷ 600 ∷ 700 ∷ 800 ∷ 1000 ∷ 1200 ∷ 1600 ∷ 2000 ∷ 2500 ∷ 3000 ∷ 4000 ∷ 5000 ∷ 6000 ∷ []

-- Whether a number is one of some numbers.
unfoldable pub is_in : ℕ → List ℕ → Bool
is_in n [] = false
is_in n (m ∷ rest) = eqb n m || is_in n rest

-- Whether amperes are a size.
unfoldable pub is_size : ℕ → Bool
is_size amperes = is_in amperes sizes
