-- The laws of `deals`, from the ground up.

-- The rooms worked by hand: the definitions alone.
pub mod WorkedRooms
-- One node's row of Requests, and its children.
pub mod Rows
pub mod Children
-- One deal: what follows from its equations, and that the computed figures meet them.
pub mod Requests
pub mod Amounts
pub mod Equations
pub mod Computed
pub mod Starts
pub mod Passed
pub mod Totals
pub mod Inside
-- The deals of a room whose table is accepted.
pub mod Loads
pub mod RoomDeals
pub mod BothDeals
pub mod StartsFit
pub mod RoomInside
pub mod LowerRanks
pub mod Bounds
-- Headroom over the second deal.
pub mod Headroom
pub mod RoomHeadroom
-- The nodes that hold cords down.
pub mod Held
pub mod RoomHeld
-- Headroom and held cords of a deal inside another.
pub mod InsideLists
pub mod RoomInsideLists
-- The whole plan, and the promises.
pub mod Plans
pub mod Lent
pub mod Promises
pub mod Judged
pub mod JudgedTotals
pub mod Versions
-- The code of metrics and dealing: the cords and active nodes of a level.
pub mod Ordering
pub mod Quarters
pub mod Begun
pub mod Active
-- The passes of a rank: sums on nodes, and the turns of their loops.
pub mod NodeSums
pub mod Weighing
pub mod Requesting
pub mod NodeTurns
pub mod CordSums
pub mod CordTurns
-- A deal, rank by rank.
pub mod Cuts
pub mod Gathered
pub mod Ranks
pub mod RankLoop
