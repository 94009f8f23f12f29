-- The laws of `join`, from the ground up.

-- The room of two, its table and its plan.
pub mod JoinedRoom
pub mod JoinedTable
pub mod JoinedPlans
pub mod Demands
-- What is kept of tables, and pieces of them put one behind the other.
pub mod PieceLaws
pub mod TableWords
pub mod Mapped
pub mod HutLaws
pub mod Together
-- The promises.
pub mod Promises
