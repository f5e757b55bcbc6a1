pub mod Burst
pub mod Owner
pub mod Law
