pub mod Filled
pub mod Law
