-- Laws of the map.
pub mod Law
pub mod Outcome
pub mod Claims
