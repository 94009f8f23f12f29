-- The laws of `plans`.
pub mod PlanCall
