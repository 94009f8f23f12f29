-- Figures that count only where a test holds, and sums over a range of places.
use Rattle.std.specs.Prelude.{Bool, cond, ℕ, zero, suc, ◌+◌}

-- A figure where a test holds, else 0.
abbrev pub on : Bool → ℕ → ℕ
on test figure = cond test figure 0

-- The sum of g i over the places i below k.
unfoldable pub sum : ℕ → (ℕ → ℕ) → ℕ
sum zero g = 0
sum (suc k) g = sum k g + g k
