-- Lists of figures, and rows of them.
-- (Here and in the other modules an `unfolding` line lets a definition compute through those that it names.)
use Rattle.std.specs.Prelude.{List, [], ◌∷◌, ℕ, zero, suc, ◌+◌, get_or}

-- The k figures of g from place j on, as a list.
unfoldable pub figures_from : ℕ → ℕ → (ℕ → ℕ) → List ℕ
figures_from zero j g = []
figures_from (suc k) j g = g j ∷ figures_from k (suc j) g

-- The figures of g at the places below k, as a list.
abbrev pub figures : ℕ → (ℕ → ℕ) → List ℕ
figures k g = figures_from k 0 g

-- The figure at a place of a list: 0 past its end.
abbrev pub at : List ℕ → ℕ → ℕ
at figures i = get_or figures i 0

-- The figure at place j of row m.
abbrev pub cell : List (List ℕ) → ℕ → ℕ → ℕ
cell rows m j = at (get_or rows m []) j

-- A figure, added up over a list.
unfoldable pub total : {A : Type 0} → (A → ℕ) → List A → ℕ
total figure [] = 0
total figure (a ∷ rest) = figure a + total figure rest

-- The sum of a list.
abbrev pub sum_of : List ℕ → ℕ
sum_of = total (λ figure. figure)
