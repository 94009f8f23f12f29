-- A figure stored in a row: what stands in the rows then. And rows of zeros.
use mathlib.Core.Path.{◌≡◌, refl, ap, ◌∙◌}
use mathlib.Core.Bool.{Bool, true, false}
use mathlib.Core.List.{List, []}
use Prim.Native.Nat.{ℕ, zero, suc, ◌≤◌, ◌<◌}
use native.Mathlib.Omega.{arith}
use lib.Dec.{eqb}
use lib.ListN.{length, get_or, set, take, replicate, length-set, length-replicate, get_or-replicate}
use lib.Seq.{get_or-set_same, get_or-set_other, length-take-le}
use borrow.Author.Tests.{eqb-true, eqb-false}
use Rattle.figures.specs.Figures.{at, cell}
use Rattle.figures.proofs.Filled.{zeros-at}
use Rattle.figures.specs.Places.{Full, ZeroRows}

-- The rows after a figure is stored at place i of the row at place k.
module _ (rows : List (List ℕ)) (k i v : ℕ) where
  abbrev pub stored : List (List ℕ)
  stored = set rows k (set (get_or rows k []) i v)

  module _ (there : k < length rows) where
    pub cell-here : i < length (get_or rows k []) → cell stored k i ≡ v
    cell-here h = ap (λ (r : List ℕ). at r i) (get_or-set_same rows k (set (get_or rows k []) i v) [] there) ∙ get_or-set_same (get_or rows k []) i v 0 h

    pub cell_elsewhere : (m j : ℕ) → (m ≡ k → ⊥) → cell stored m j ≡ cell rows m j
    cell_elsewhere m j d = ap (λ (r : List ℕ). at r j) (get_or-set_other rows k m (set (get_or rows k []) i v) [] d)

    pub cell_others : (m j : ℕ) → (j ≡ i → ⊥) → cell stored m j ≡ cell rows m j
    cell_others m j d = go (eqb m k) refl
      where
        go : (t : Bool) → eqb m k ≡ t → cell stored m j ≡ cell rows m j
        go false e = cell_elsewhere m j (eqb-false m k e)
        go true e =
            let q : m ≡ k = eqb-true m k e in
            rw q
            (ap (λ (r : List ℕ). at r j) (get_or-set_same rows k (set (get_or rows k []) i v) [] there) ∙ get_or-set_other (get_or rows k []) i j v 0 d)

    pub stored_full : {count size : ℕ} → Full count size rows → Full count size stored
    stored_full {count} {size} full = (
      length-set rows k (set (get_or rows k []) i v) ∙ full.0,
      λ m l. go m l (eqb m k) refl,
    )
      where
        go : (m : ℕ) → m < count → (t : Bool) → eqb m k ≡ t → length (get_or stored m []) ≡ size
        go m l false e = ap length (get_or-set_other rows k m (set (get_or rows k []) i v) [] (eqb-false m k e)) ∙ full.1 m l
        go m l true e =
            let q : m ≡ k = eqb-true m k e in
            rw q
            (ap length (get_or-set_same rows k (set (get_or rows k []) i v) [] there) ∙ length-set (get_or rows k []) i v ∙ full.1 k (omega (arith, full.0)))

-- ---- Lists of zeros, as they are lent at first

zeros : ℕ → List ℕ
zeros k = replicate k 0

pub zeros-front : (k n : ℕ) → n ≤ k → length {A = ℕ} (take n (replicate k 0)) ≡ n
unfolding zeros
zeros-front k n h = length-take-le n (zeros k) (omega (arith, length-replicate {A = ℕ} k 0))

pub zeros_rows : (k n : ℕ) → (length (replicate k (replicate {A = ℕ} n 0)) ≡ k) × ((m : ℕ) → m < k → length (get_or (replicate k (replicate {A = ℕ} n 0)) m []) ≡ n)
unfolding zeros
zeros_rows k n = (length-replicate k (zeros n), λ m l. ap length (get_or-replicate k m (zeros n) [] l) ∙ length-replicate {A = ℕ} n 0)

rows_at : (row : List ℕ) → ((j : ℕ) → at row j ≡ 0) → (k n j : ℕ) → cell (replicate k row) n j ≡ 0
rows_at row z zero n j = refl
rows_at row z (suc k) zero j = z j
rows_at row z (suc k) (suc n) j = rows_at row z k n j

pub zeros_cells : (k m n j : ℕ) → cell (replicate k (replicate m 0)) n j ≡ 0
unfolding zeros
zeros_cells k m n j = rows_at (zeros m) (zeros-at m) k n j

pub zero_rows : (k n : ℕ) → ZeroRows k n (replicate k (replicate n 0))
zero_rows k n = record { full = zeros_rows k n; none = zeros_cells k n }
