-- Headroom after a deal: what the contract of `lend` cites. Figures stand in lists, by the places of nodes or cords.
use Rattle.std.specs.Prelude.{◌≡◌, List, ℕ, ◌+◌, ◌≤◌, ◌<◌, length}
use Rattle.rooms.specs.Table.{most_watts}
use Rattle.figures.specs.Figures.{at}
use Rattle.deals.specs.Metrics.{deal_from, metrics}
use Rattle.deals.specs.Headroom.{requests_at}
use Rattle.deals.specs.Ranks.{DealLists}

-- The lists are those of a deal by these limits, levels, lows and starts, after it is made: what each limit has over the node's Requests,
-- and the cords' ceilings, none below its cord's want.
pub record LendGiven (parents nodes wants left ceilings limits levels lows starts : List ℕ) : Type 0 where
  pub lists : DealLists parents limits nodes levels lows starts wants
  pub left_size : length left ≡ length parents
  pub left_is : (n : ℕ) → n < length parents
      → at left n + requests_at (metrics (deal_from parents limits nodes levels lows starts wants)) n ≡ at limits n
  pub ceilings_size : length ceilings ≡ length nodes
  pub wanted : (c : ℕ) → c < length nodes → at wants c ≤ at ceilings c
  pub most : (c : ℕ) → c < length nodes → at ceilings c ≤ most_watts

-- There are such limits, levels, lows and starts. The code needs none: `left` has all that it uses of them.
pub record SomeLending (parents nodes wants left ceilings : List ℕ) : Type 0 where
  pub limits : List ℕ
  pub levels : List ℕ
  pub lows : List ℕ
  pub starts : List ℕ
  pub given : LendGiven parents nodes wants left ceilings limits levels lows starts
