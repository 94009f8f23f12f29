-- The laws of `rooms`, from the ground up.

-- Sums over what hangs beneath a node, and the room's cords.
pub mod Trees
pub mod Cords
-- What a good part of a table is, and what a good table and its room are as a whole.
pub mod Fronts
pub mod NodeWords
pub mod Inversion
pub mod All
pub mod Rows
pub mod Whole
pub mod Places
pub mod Extent
pub mod Reach
-- The check of the words.
pub mod Steps
-- The lows against the limits.
pub mod Carried
pub mod Credits
pub mod CreditTurns
pub mod Gather
pub mod Search
pub mod Found
pub mod Overloaded
pub mod Accepted
-- A good table laid out in lists and rows.
pub mod Counts
pub mod Walk
pub mod Laying
pub mod RowsLent
-- A good table as the words of its room; a table of one version made of another.
pub mod Tables
pub mod Words
pub mod Versions
-- Read and Write.
pub mod Outcomes
pub mod Lent
-- What the crate promises, and what Read says near document 01's rooms.
pub mod Promises
pub mod WorkedRooms
