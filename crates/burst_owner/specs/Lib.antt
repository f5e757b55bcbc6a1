pub mod Owner
pub mod Model
