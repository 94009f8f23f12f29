-- A table of one version made from a table of the version before it: for statements about both.
use Rattle.std.specs.Prelude.{List, [], ◌∷◌, ℕ, zero, suc, ◌*◌}

-- ---- Version 2 from version 1

-- Words that start with those of so many nodes, parent and rating: each node gets 80, its percent, as a third word. All other words
-- stay as they are.
unfoldable pub with_eighty : ℕ → List ℕ → List ℕ
with_eighty (suc count) (parent ∷ rating ∷ rest) = parent ∷ rating ∷ 80 ∷ with_eighty count rest
with_eighty (suc count) (word ∷ []) = word ∷ []
with_eighty (suc count) [] = []
with_eighty zero words = words

-- The version 2 table with 80 throughout, of a version 1 table.
unfoldable pub second_version : List ℕ → List ℕ
unfolding with_eighty
second_version (version ∷ node_count ∷ rest) = 2 ∷ node_count ∷ with_eighty node_count rest
second_version (version ∷ []) = 2 ∷ []
second_version [] = []

-- ---- Version 3 from version 2

-- Words that start with so many cords, node and share, and go on with servers: every share tenfold. All other words stay as they are,
-- and so do the last ones if words are missing.
unfoldable pub shares_tenfold : ℕ → List ℕ → List ℕ
shares_tenfold (suc cords) (node ∷ share ∷ rest) = node ∷ 10 * share ∷ shares_tenfold cords rest
shares_tenfold zero (rank ∷ least ∷ greatest ∷ cords ∷ rest) = rank ∷ least ∷ greatest ∷ cords ∷ shares_tenfold cords rest
shares_tenfold (suc cords) (node ∷ []) = node ∷ []
shares_tenfold (suc cords) [] = []
shares_tenfold zero (rank ∷ least ∷ greatest ∷ []) = rank ∷ least ∷ greatest ∷ []
shares_tenfold zero (rank ∷ least ∷ []) = rank ∷ least ∷ []
shares_tenfold zero (rank ∷ []) = rank ∷ []
shares_tenfold zero [] = []

-- Words that start with those of so many nodes, parent, rating and percent, and go on with the count of servers: likewise.
unfoldable pub tenfold_past : ℕ → List ℕ → List ℕ
unfolding shares_tenfold
tenfold_past (suc count) (parent ∷ rating ∷ percent ∷ rest) = parent ∷ rating ∷ percent ∷ tenfold_past count rest
tenfold_past zero (server_count ∷ rest) = server_count ∷ shares_tenfold 0 rest
tenfold_past (suc count) (parent ∷ rating ∷ []) = parent ∷ rating ∷ []
tenfold_past (suc count) (parent ∷ []) = parent ∷ []
tenfold_past (suc count) [] = []
tenfold_past zero [] = []

-- The version 3 table with every share tenfold, of a version 2 table.
unfoldable pub third_version : List ℕ → List ℕ
unfolding tenfold_past
third_version (version ∷ node_count ∷ rest) = 3 ∷ node_count ∷ tenfold_past node_count rest
third_version (version ∷ []) = 3 ∷ []
third_version [] = []
