-- A period of a sender over a slow bus: which servers its messages go to, and where the next period begins.
--
-- Servers are numbered from 0; `count` is how many there are, and m how many messages the bus carries in a period.
use Rattle.std.specs.Prelude.{cond, List, [], ◌∷◌, ℕ, zero, suc, min, ltb}

-- The server that follows one: the next by number; the first follows the last.
abbrev pub following : ℕ → ℕ → ℕ
following count server = cond (ltb (suc server) count) (suc server) 0

-- So many servers from a position on, each followed by the next.
unfoldable pub servers_from : (count position many : ℕ) → List ℕ
servers_from count position zero = []
servers_from count position (suc many) = position ∷ servers_from count (following count position) many

-- The position after so many servers from a position on.
unfoldable pub position_after : (count position many : ℕ) → ℕ
position_after count position zero = position
position_after count position (suc many) = position_after count (following count position) many

-- What a period comes to: the servers that it names, in order, and the new position.
pub record Period : Type 0 where
  pub named : List ℕ
  pub next : ℕ

-- How many servers a period names: m, or all, if those are fewer.
abbrev pub named_count : ℕ → ℕ → ℕ
named_count count m = min m count

-- The period that begins at a position.
abbrev pub period : (count position m : ℕ) → Period
period count position m =
    record { named = servers_from count position (named_count count m); next = position_after count position (named_count count m) }
