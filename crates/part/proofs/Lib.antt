-- The laws of `part`, from the ground up.

-- A room parted in two, and the tables of its parts.
pub mod PartLaws
pub mod PartTables
pub mod Uncross
-- Both sides of a cut in the words of a table.
pub mod AcrossLaws
pub mod SideLaws
pub mod OutcomeLaws
pub mod SidesMade
-- The promises.
pub mod Promises
