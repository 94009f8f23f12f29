-- What a reader must believe of `rooms`: the table, what a node may carry, and the room's figures as lists and as rows.
pub mod Part
pub mod Table
pub mod Trees
pub mod Limits
pub mod Cords
pub mod Lists
pub mod Rows
pub mod Told
pub mod Words
pub mod Outcome
pub mod Promises
pub mod Versions
-- Cited by contracts of private functions alone.
pub mod Credits
pub mod Walk
