-- What a reader must believe of `deals`.

-- Needs, and the wants of the first deal.
pub mod Wants
-- One deal: metrics and dealing.
pub mod Metrics
pub mod Dealing
-- Both deals, the headroom over the second (request A.1), the nodes that hold cords down in it (request A.5), and the whole plan with its
-- refusals.
pub mod SecondDeal
pub mod Headroom
pub mod Held
pub mod Plan
-- What is promised (demand 3): trees and other ways of dealing them, and the statements.
pub mod Ways
pub mod Promises
-- What is wrong with a given list of grants (request A.9).
pub mod Judge
-- What else is proved of every plan.
pub mod Properties
-- Cited by contracts that are private to Plan: no operation has them.
pub mod Levels
pub mod Quarters
pub mod Passes
pub mod Ranks
