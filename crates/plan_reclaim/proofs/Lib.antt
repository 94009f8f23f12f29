-- The laws of `plan_reclaim`.
pub mod Reclaiming
pub mod Raising
