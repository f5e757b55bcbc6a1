pub mod Mask
pub mod Law
