pub mod Write
pub mod Law
