-- Both deals of a room, and what follows them: what the contracts of `plan_rooms` cite.
use Rattle.std.specs.Prelude.{◌≡◌, List, ℕ}
use Rattle.std.proofs.lemmas.List.Edits.{sets}
use Rattle.rooms.specs.Part.{good}
use Rattle.rooms.specs.Table.{Room}
use Rattle.rooms.specs.Limits.{checked}
use Rattle.rooms.specs.Lists.{nodes_of}
use Rattle.rooms.specs.declared.lists.CordRow.{CordRow}
use Rattle.deals.specs.SecondDeal.{freed, second_deal, second_wants}
use Rattle.deals.specs.SecondDeal as second
use Rattle.deals.specs.Headroom as lending
use Rattle.deals.specs.Plan.{plan_of, output, Lists}
use Rattle.deals.specs.declared.PlanList.{PlanList}
use Rattle.deals.specs.Ranks.{DealMade}
use Rattle.layout.specs.Outcome.{counts_of}
use Rattle.layout.specs.Room.{RoomLists, RoomLoaded}
use Rattle.layout.specs.declared.room.Counts.{Counts}

-- ---- Both deals

-- The lists are those of a room, with given demands, the numbers of its cords' nodes, and its scale. Of the ceilings nothing is asked.
pub record RoomToDeal (r : Room) (demands parents spare : List ℕ) (cords : List CordRow) (nodes lows wants needed : List ℕ)
    (scale : ℕ) : Type 0 where
  pub lists : RoomLists r demands parents spare cords lows wants (lending.ceilings_of r) needed
  pub nodes_are : nodes ≡ nodes_of r
  pub scale_is : scale ≡ r.scale

-- They are those of the room of some good table with some demands.
pub record SomeRoom (parents spare : List ℕ) (cords : List CordRow) (nodes lows wants needed : List ℕ) (scale : ℕ) : Type 0 where
  pub table : List ℕ
  pub demands : List ℕ
  pub room : Room
  pub end : ℕ
  pub is : checked table 0 ≡ good room end
  pub lists : RoomToDeal room demands parents spare cords nodes lows wants needed scale

-- Both deals of a room are made: the freed watts, the second wants, what the second deal leaves in its lists, and the caps.
pub record DealtTwice (r : Room) (demands : List ℕ) (watts : ℕ) (wants left cuts grants caps : List ℕ) : Type 0 where
  pub freed_is : watts ≡ freed r demands
  pub wants_are : wants ≡ second_wants r demands
  pub made : DealMade (second_deal r demands) left cuts grants
  pub caps_are : caps ≡ second.caps r demands

-- ---- The plan

-- The lists of a room, loaded, and its counts: `headroom` has the cords' ceilings, and `caps` the servers' needs.
pub record PlanGiven (table demands : List ℕ) (r : Room) (counts : Counts) (parents spare : List ℕ) (cords : List CordRow)
    (lows wants headroom caps : List ℕ) : Type 0 where
  pub end : ℕ
  pub is : checked table 0 ≡ good r end
  pub counted : counts ≡ counts_of r
  pub loaded : RoomLoaded r demands parents spare cords lows wants headroom caps

-- They are those of some good table with some demands.
pub record SomePlan (counts : Counts) (parents spare : List ℕ) (cords : List CordRow) (lows wants headroom caps : List ℕ) : Type 0 where
  pub table : List ℕ
  pub demands : List ℕ
  pub room : Room
  pub given : PlanGiven table demands room counts parents spare cords lows wants headroom caps

-- The plan of a room stands at the fronts of its lists; what is past it is unchanged.
pub record PlanLeft (r : Room) (demands : List ℕ) (watts : ℕ) (before after : Lists) : Type 0 where
  pub freed_is : watts ≡ freed r demands
  pub lists_are : (list : PlanList) → after list ≡ sets (before list) 0 (output list (plan_of r demands))
