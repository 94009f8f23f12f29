-- The starts raised from the lows: what the contract of `raise_starts` cites.
use Rattle.std.specs.Prelude.{◌≡◌, List, ℕ, ◌+◌, ◌≤◌, ◌<◌, length}
use Rattle.rooms.specs.Table.{most_nodes, most_cords, most_watts}
use Rattle.figures.specs.Figures.{at}
use Rattle.deals.specs.Ranks.{list_beneath}
use Rattle.rooms.specs.Trees.{ParentsFirst}

-- Lists of which the starts can be raised from the lows: `left` has what each limit has over the lows beneath, and that is enough.
pub record Raisable (parents nodes lows starts left : List ℕ) : Type 0 where
  pub few-nodes : length parents ≤ most_nodes
  pub few : length nodes ≤ most_cords
  pub left_size : length left ≡ length parents
  pub lows_size : length lows ≡ length nodes
  pub starts_size : length starts ≡ length nodes
  pub rises : ParentsFirst (length parents) (at parents)
  pub hangs : (c : ℕ) → c < length nodes → 1 ≤ at nodes c
  pub within : (c : ℕ) → c < length nodes → at nodes c ≤ length parents
  pub least : (c : ℕ) → c < length nodes → at lows c ≤ at starts c
  pub most : (c : ℕ) → c < length nodes → at starts c ≤ most_watts
  pub enough : (n : ℕ) → n < length parents → list_beneath parents nodes starts n ≤ at left n + list_beneath parents nodes lows n
