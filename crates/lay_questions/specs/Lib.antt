pub mod Question
pub mod Model
