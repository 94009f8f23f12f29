-- The laws of `plan_rooms`.
pub mod Planning
pub mod Following
pub mod Given
