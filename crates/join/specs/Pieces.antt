-- Pieces of tables, put one behind the other, and numbers of nodes moved in them: what contracts of private functions cite, of Join and of
-- Part. No public contract does.
use Rattle.std.specs.Prelude.{◌≡◌, List, [], ◌∷◌, ◌++◌, ℕ, zero, suc, ◌+◌, ◌-◌, ◌*◌, ◌≤◌, length, take, drop}

-- ---- Numbers of nodes

-- The number of a node, moved up by some and down by others; 0, which is no node, stays 0.
abbrev pub renumbered : ℕ → ℕ → ℕ → ℕ
renumbered up down zero = 0
renumbered up down (suc m) = suc m + up - down

-- Words of which one is renumbered, and then, after each that is, a gap of so many is not; `skip` of them are left of a gap.
unfoldable pub renumbered_every : (gap up down skip : ℕ) → List ℕ → List ℕ
renumbered_every gap up down zero (word ∷ rest) = renumbered up down word ∷ renumbered_every gap up down gap rest
renumbered_every gap up down (suc skip) (word ∷ rest) = word ∷ renumbered_every gap up down skip rest
renumbered_every gap up down zero [] = []
renumbered_every gap up down (suc skip) [] = []

-- Words of servers that start with so many cords, node and share each: the nodes are renumbered. All other words stay as they are, and so
-- do the last ones if words of a server are missing.
unfoldable pub renumbered_cords : (up down cords : ℕ) → List ℕ → List ℕ
renumbered_cords up down (suc cords) (node ∷ share ∷ rest) = renumbered up down node ∷ share ∷ renumbered_cords up down cords rest
renumbered_cords up down (suc cords) (node ∷ []) = renumbered up down node ∷ []
renumbered_cords up down (suc cords) [] = []
renumbered_cords up down zero (rank ∷ least ∷ greatest ∷ cords ∷ rest) = rank ∷ least ∷ greatest ∷ cords ∷ renumbered_cords up down cords rest
renumbered_cords up down zero (rank ∷ least ∷ greatest ∷ []) = rank ∷ least ∷ greatest ∷ []
renumbered_cords up down zero (rank ∷ least ∷ []) = rank ∷ least ∷ []
renumbered_cords up down zero (rank ∷ []) = rank ∷ []
renumbered_cords up down zero [] = []

-- ---- Pieces

-- The words from one index to another.
abbrev pub piece : ℕ → ℕ → List ℕ → List ℕ
piece from to words = take (to - from) (drop from words)

-- A piece of words in bytes is there, and there is space for it in a list from a place on.
pub record MayPut (bytes : List ℕ) (from to : ℕ) (list : List ℕ) (at : ℕ) : Type 0 where
  pub ordered : from ≤ to
  pub there : 4 * to ≤ length bytes
  pub space : at + (to - from) ≤ length list

-- The front of a list up to a place is followed by some words; `end` is the place behind them. What comes after is anything.
pub record PiecePut (list : List ℕ) (at : ℕ) (words : List ℕ) (list' : List ℕ) (end : ℕ) : Type 0 where
  pub ends : end ≡ at + length words
  pub within : end ≤ length list
  pub size : length list' ≡ length list
  pub front : take end list' ≡ take at list ++ words
