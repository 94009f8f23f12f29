-- The laws of Plan called from C: what the call returns and leaves.
pub mod PlanLaws
