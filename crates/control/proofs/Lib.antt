-- Laws that the proofs of `control` share, and its promises.
pub mod Tests
pub mod Cords
pub mod Calls
pub mod FloatOrder
pub mod FloatRounding
pub mod FloatCut
pub mod FloatChoice
pub mod Sound
pub mod Outcomes
pub mod Accepted
pub mod Promises
pub mod Examples
