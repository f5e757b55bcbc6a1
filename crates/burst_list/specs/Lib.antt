pub mod List
pub mod Model
