pub mod Places
pub mod Judge
pub mod Each
