pub mod List
pub mod Law
