-- The laws of `plan_headroom`: what its passes ask and what they leave, and that this is the headroom of the deal.
pub mod Weights
pub mod Headroom
