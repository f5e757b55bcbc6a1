pub mod Each
pub mod Columns
