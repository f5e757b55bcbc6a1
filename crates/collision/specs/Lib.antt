pub mod Collision
pub mod Model
