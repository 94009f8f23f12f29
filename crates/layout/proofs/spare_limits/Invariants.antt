use Prim.Native.Nat.{ℕ, ◌+◌, ◌≤◌, ◌<◌}
use mathlib.Core.Path.{◌≡◌}
use Rattle.figures.specs.Figures.{at}
use Rattle.layout.proofs.spare_limits.Given as goal

-- The nodes passed have what their limits have over the lows, the others their limits.
abbrev pub invariant-loop-n : goal.invariant-loop-n
invariant-loop-n l =
    ((m : ℕ) → m < l.n → at l.limits m + at l.beneath m ≡ at l.initial.limits m)
    × ((m : ℕ) → l.n ≤ m → at l.limits m ≡ at l.initial.limits m)
