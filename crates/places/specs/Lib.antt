pub mod Places
pub mod Law
