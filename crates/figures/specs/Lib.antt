-- Lists of figures, sums over them, and lists of bounded numbers.
pub mod Figures
pub mod Sums
pub mod Bounds
-- Cited by contracts that are private: no operation has them.
pub mod Places
pub mod Credits
