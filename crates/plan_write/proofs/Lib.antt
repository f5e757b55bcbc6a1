pub mod Bytes
pub mod Round
pub mod Law
