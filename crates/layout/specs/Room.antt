-- The lists of a loaded room. Cited by contracts that are private to Plan: no operation has them.
use Rattle.std.specs.Prelude.{◌≡◌, List, ℕ, ◌+◌, ◌≤◌, ◌<◌, length, take}
use Rattle.figures.specs.Figures.{at}
use Rattle.rooms.specs.Table.{Room, most_nodes, most_servers, most_cords, room_cords}
use Rattle.rooms.specs.Limits.{lows_beneath}
use Rattle.rooms.specs.Lists.{parents_of, limits_of}
use Rattle.rooms.specs.declared.lists.CordRow.{CordRow}
use Rattle.layout.specs.Lists.{CordsLaidOut}
use Rattle.layout.specs.declared.room.Counts.{Counts}

-- Counts of no more than lists for any room take.
pub record CountsFew (counts : Counts) : Type 0 where
  pub nodes : counts.nodes ≤ most_nodes
  pub servers : counts.servers ≤ most_servers
  pub cords : counts.cords ≤ most_cords

-- Lists of these lengths take those of any room: a place for each node, for each cord, or for each server.
pub record LoadSpace (parents spare cords lows wants ceilings needs : ℕ) : Type 0 where
  pub for_parents : most_nodes ≤ parents
  pub for_spare : most_nodes ≤ spare
  pub for_cords : most_cords ≤ cords
  pub for_lows : most_cords ≤ lows
  pub for_wants : most_cords ≤ wants
  pub for_ceilings : most_cords ≤ ceilings
  pub for_needs : most_servers ≤ needs

-- The lists are those of a room, with given demands: its nodes' parents and what their limits have over the lows beneath, its cords' rows,
-- their lows, their wants of the first deal and their ceilings, and its servers' needs.
pub record RoomLists (r : Room) (demands parents spare : List ℕ) (cords : List CordRow) (lows wants ceilings needed : List ℕ) : Type 0 where
  pub parents_are : parents ≡ parents_of r
  pub spare_size : length spare ≡ length parents
  pub spare_is : (n : ℕ) → n < length r.nodes → at spare n + lows_beneath r n ≡ at (limits_of r) n
  pub cords_are : CordsLaidOut r demands cords lows wants ceilings needed

-- The lists have those of a room at their fronts.
abbrev pub RoomLoaded : Room → (demands parents spare : List ℕ) → List CordRow → (lows wants ceilings needed : List ℕ) → Type 0
RoomLoaded r demands parents spare cords lows wants ceilings needed =
    RoomLists r demands (take (length r.nodes) parents) (take (length r.nodes) spare) (take (room_cords r) cords)
    (take (room_cords r) lows) (take (room_cords r) wants) (take (room_cords r) ceilings) (take (length r.servers) needed)
