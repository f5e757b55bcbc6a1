pub mod Plan
pub mod Model
