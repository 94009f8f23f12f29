-- Which figures a list has, and at which places. Cited by contracts that are private: no operation has them.
use Rattle.std.specs.Prelude.{◌≡◌, List, [], ℕ, ◌<◌, length, get_or}
use Rattle.figures.specs.Figures.{at, cell}

-- So many lists, each of a given length.
abbrev pub Full : ℕ → ℕ → List (List ℕ) → Type 0
Full count size lists = (length lists ≡ count) × ((i : ℕ) → i < count → length (get_or lists i []) ≡ size)

-- So many zeros, and so many rows of so many zeros.
pub record Zeros (count : ℕ) (list : List ℕ) : Type 0 where
  pub size : length list ≡ count
  pub none : (i : ℕ) → i < count → at list i ≡ 0

pub record ZeroRows (count size : ℕ) (rows : List (List ℕ)) : Type 0 where
  pub full : Full count size rows
  pub none : (i j : ℕ) → cell rows i j ≡ 0

-- A place at which a list has a figure.
pub record Found (list : List ℕ) (figure : ℕ) : Type 0 where
  pub place : ℕ
  pub below : place < length list
  pub here : at list place ≡ figure

-- A place that the first `count` entries of a list do not have.
abbrev pub Absent : List ℕ → ℕ → ℕ → Type 0
Absent list count n = (i : ℕ) → i < count → at list i ≡ n → ⊥

-- A place that they do have: one that is not absent.
abbrev pub Present : List ℕ → ℕ → ℕ → Type 0
Present list count n = Absent list count n → ⊥
