pub mod Number
pub mod Judge
pub mod Points
