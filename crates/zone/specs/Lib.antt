pub mod Zone
pub mod Model
