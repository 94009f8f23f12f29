-- One deal, rank by rank: what the contract of `by_rank` cites. Figures stand in lists, by the places of nodes or cords.
use Rattle.std.specs.Prelude.{◌≡◌, List, ℕ, ◌+◌, ◌≤◌, ◌<◌, ltb, length}
use Rattle.rooms.specs.Table.{most_nodes, most_cords, most_watts, highest_rank}
use Rattle.rooms.specs.Trees.{ParentsFirst, sum_beneath}
use Rattle.figures.specs.Figures.{at, cell}
use Rattle.deals.specs.Metrics.{Deal, deal_from, metrics}
use Rattle.deals.specs.Dealing.{granted}
use Rattle.deals.specs.Headroom.{requests_at}
use Rattle.deals.specs.Held.{cut_from}
use Rattle.deals.specs.Properties.{StartsFit}
use Rattle.deals.specs.Levels.{LevelLists}
use Rattle.deals.specs.declared.levels.Level.{Level}

-- The nodes of a room: for each its parent's number and its limit.
pub record NodeLists (parents limits : List ℕ) : Type 0 where
  pub few : length parents ≤ most_nodes
  pub limits_size : length limits ≡ length parents
  pub rises : ParentsFirst (length parents) (at parents)
  pub most : (m : ℕ) → m < length parents → at limits m ≤ most_watts

-- The cords of a room of so many nodes: for each its node's number, its level (rank − 1), its low, its start and its want.
pub record CordLists (node_count : ℕ) (nodes levels lows starts wants : List ℕ) : Type 0 where
  pub few : length nodes ≤ most_cords
  pub levels_size : length levels ≡ length nodes
  pub lows_size : length lows ≡ length nodes
  pub starts_size : length starts ≡ length nodes
  pub wants_size : length wants ≡ length nodes
  pub hangs : (c : ℕ) → c < length nodes → 1 ≤ at nodes c
  pub within : (c : ℕ) → c < length nodes → at nodes c ≤ node_count
  pub ranked : (c : ℕ) → c < length nodes → at levels c < highest_rank
  pub least : (c : ℕ) → c < length nodes → at lows c ≤ at starts c
  pub ordered : (c : ℕ) → c < length nodes → at starts c ≤ at wants c
  pub most : (c : ℕ) → c < length nodes → at wants c ≤ most_watts

-- The watts of all cords beneath the node at place n, at any depth: of the lows, rooms' `lows_beneath`, over lists.
abbrev pub list_beneath : List ℕ → List ℕ → List ℕ → ℕ → ℕ
list_beneath parents nodes watts n = sum_beneath (length parents) (at parents) (length nodes) (at nodes) n (at watts)

-- Lists of which a deal can be made: no node has a limit that the lows beneath it exceed, nor at any rank a Request that the starts
-- beneath it exceed, and the Requests of any rank and above leave the lower ranks their starts.
pub record DealLists (parents limits nodes levels lows starts wants : List ℕ) : Type 0 where
  pub of_nodes : NodeLists parents limits
  pub of_cords : CordLists (length parents) nodes levels lows starts wants
  pub lows-within : (n : ℕ) → n < length parents → list_beneath parents nodes lows n ≤ at limits n
  pub starts_within : (n j : ℕ) → n < length parents → j < highest_rank
      → cell (metrics (deal_from parents limits nodes levels lows starts wants)).starts n j
      ≤ cell (metrics (deal_from parents limits nodes levels lows starts wants)).requests n j
  pub starts_fit : StartsFit (deal_from parents limits nodes levels lows starts wants)

-- What each node's limit has over the watts of the cords beneath it.
pub record Spare (parents limits nodes watts spare : List ℕ) : Type 0 where
  pub size : length spare ≡ length parents
  pub over : (n : ℕ) → n < length parents → at spare n + list_beneath parents nodes watts n ≡ at limits n

-- The lists are those of a deal by these limits, levels and lows; `rows`, `order` and `actives` are what `levels` makes of the levels,
-- and `spare` is what the limits have over the starts.
pub record DealGiven (parents : List ℕ) (rows : List Level) (order : List ℕ) (actives : List (List ℕ))
    (nodes starts wants spare limits levels lows : List ℕ) : Type 0 where
  pub lists : DealLists parents limits nodes levels lows starts wants
  pub by_level : LevelLists parents nodes levels rows order actives
  pub spared : Spare parents limits nodes starts spare

-- There are such limits, levels and lows. The code needs none: `spare` and the lists by level have all that it uses of them.
pub record SomeDeal (parents : List ℕ) (rows : List Level) (order : List ℕ) (actives : List (List ℕ))
    (nodes starts wants spare : List ℕ) : Type 0 where
  pub limits : List ℕ
  pub levels : List ℕ
  pub lows : List ℕ
  pub given : DealGiven parents rows order actives nodes starts wants spare limits levels lows

-- A deal is made: its grants, what each limit has over the Requests, and for each node the highest rank at which it is cut, 0 if there is
-- none (a rank is its level + 1).
pub record DealMade (d : Deal) (left cuts grants : List ℕ) : Type 0 where
  pub grants_are : grants ≡ granted d
  pub left_is : (n : ℕ) → n < d.nodes → at left n + requests_at (metrics d) n ≡ d.limit n
  pub cuts_are : (n j : ℕ) → n < d.nodes → j < highest_rank → cut_from d (metrics d) j n ≡ ltb j (at cuts n)
