pub mod Burst
pub mod Model
