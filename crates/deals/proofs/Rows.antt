-- One node's row of Requests, and its law of totals: from any level on the row sums to the lesser of what the limit leaves over
-- the Pcapmin of the lower levels, and of what the children ask from there on. So it keeps the Pcapmin and fits the limit.
use mathlib.Core.Path.{◌≡◌, ap, ◌∙◌}
use Prim.Native.Nat.{ℕ, zero, suc, ◌+◌, ◌-◌, ◌≤◌, ◌<◌, min}
use native.Mathlib.Nat.{sub_right_comm, zero-add}
use native.Mathlib.Omega.{arith}
use Rattle.figures.specs.Sums.{sum}
use Rattle.figures.proofs.Sums.{up, up_suc, sum_suc, sum_cong, sum_add, sum_le, sum_none, sum_up}
use Rattle.figures.proofs.Lists.{sum_one_le}

-- The row r of a node: from the highest of mm levels down, the lesser of what the limit leaves and of what the children ask,
-- where p is the row of Pcapmin and s the children's sums.
abbrev pub IsRow : ℕ → ℕ → (ℕ → ℕ) → (ℕ → ℕ) → (ℕ → ℕ) → Type 0
IsRow mm limit p s r = (k j : ℕ) → suc j + k ≡ mm → r j ≡ min (limit - up k (suc j) r - sum j p) (s j)

-- Figures that are nowhere less than others, and sum to no more, are the same.
pub sum_tight : (k : ℕ) (g h : ℕ → ℕ) → ((i : ℕ) → i < k → g i ≤ h i) → sum k h ≤ sum k g → (i : ℕ) → i < k → h i ≡ g i
sum_tight k g h le s i l =
    omega (
      arith,
      le i l,
      sum_one_le k i (λ i. h i - g i) l,
      sum_cong k h (λ i. g i + (h i - g i)) (λ i l. omega (arith, le i l)),
      sum_add k g (λ i. h i - g i),
    )

-- A row from a level on, by the row from the next: m is left of the limit, b the level's Pcapmin and a what its children ask.
total_step : (m a b v x y : ℕ) → b ≤ a → x ≡ min (m - b) v → y ≡ min (m - x) a → y + x ≡ min m (a + v)
total_step m a b v x y h e q = omega arith

module _ (mm limit : ℕ) (p s r : ℕ → ℕ) (row : IsRow mm limit p s r) where
  pub row_high : (k j : ℕ) → suc j + k ≡ mm → r j ≤ s j
  row_high k j e = omega (arith, row k j e)

  module _ (ps : (j : ℕ) → j < mm → p j ≤ s j) where
    -- The law of totals. (A higher level's bracket leaves this one its Pcapmin, of which the children ask no less.)
    pub row_total : (k j : ℕ) → j + k ≡ mm → up k j r ≡ min (limit - sum j p) (up k j s)
    unfolding up
    row_total zero j e = omega arith
    row_total (suc k) j e =
        total_step (limit - sum j p) (s j) (p j) (up k (suc j) s) (up k (suc j) r) (r j) (ps j (omega arith))
        (row_total k (suc j) (omega arith) ∙ ap (λ (x : ℕ). min x (up k (suc j) s)) (omega (arith, sum_suc j p)))
        (row k j (omega arith) ∙ ap (λ (x : ℕ). min x (s j)) (sub_right_comm limit (up k (suc j) r) (sum j p)))

    module _ (pl : sum mm p ≤ limit) where
      -- The Requests from a level on, with the Pcapmin of the lower ones, fit the limit.
      pub row_fits : (k j : ℕ) → j + k ≡ mm → sum j p + up k j r ≤ limit
      row_fits k j e = omega (arith, row_total k j e, sum_up k j mm p e)

      pub row_low : (k j : ℕ) → suc j + k ≡ mm → p j ≤ r j
      row_low k j e = omega (arith, row_fits k (suc j) e, sum_suc j p, row k j e, ps j (omega arith))

      -- ---- A row that is cut at a level: less there than the children ask

      -- From that level on it takes all that the Pcapmin of the lower levels leave of the limit,
      row_cut : (k j : ℕ) → suc j + k ≡ mm → r j < s j → sum j p + up (suc k) j r ≡ limit
      row_cut k j e c = omega (arith, up_suc k j r, row k j e, row_fits k (suc j) e, sum_suc j p)

      -- so that it takes all of the limit, and the lower levels have just their Pcapmin.
      row_below : (k j : ℕ) → suc j + k ≡ mm → r j < s j → (sum j r ≤ sum j p) × (sum mm r ≡ limit)
      row_below k j e c =
          let low : sum j p ≤ sum j r = sum_le j p r (λ i l. row_low (mm - suc i) i (omega arith)) in
          let all : sum j r + up (suc k) j r ≡ sum mm r = sum_up (suc k) j mm r (omega arith) in
          let most : sum mm r ≤ limit = omega (arith, row_fits mm 0 (zero-add mm), sum_up mm 0 mm r (zero-add mm), sum_none r) in
          let cut : sum j p + up (suc k) j r ≡ limit = row_cut k j e c in
          (omega arith, omega arith)

      pub row_full : (k j : ℕ) → suc j + k ≡ mm → r j < s j → sum mm r ≡ limit
      row_full k j e c = (row_below k j e c).1

      pub row_lows : (k j : ℕ) → suc j + k ≡ mm → r j < s j → (i : ℕ) → i < j → r i ≡ p i
      row_lows k j e c = sum_tight j p r (λ i l. row_low (mm - suc i) i (omega arith)) (row_below k j e c).0
