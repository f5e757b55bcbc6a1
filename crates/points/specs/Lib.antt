pub mod Points
pub mod Model
