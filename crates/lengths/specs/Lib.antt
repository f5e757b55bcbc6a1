pub mod Length
pub mod Question
pub mod Model
