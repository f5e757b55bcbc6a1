pub mod Step
pub mod Points
pub mod Decide
