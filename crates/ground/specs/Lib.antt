pub mod Ground
pub mod Model
