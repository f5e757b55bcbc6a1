pub mod Setup
pub mod Mode
pub mod Question
pub mod Model
pub mod Named
