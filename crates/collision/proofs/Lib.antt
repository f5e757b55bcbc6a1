-- Laws of collisions.
pub mod Count
pub mod Pass
pub mod Group
pub mod Outcome
