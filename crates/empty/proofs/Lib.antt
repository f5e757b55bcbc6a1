-- Laws of emptying.
pub mod Rows
pub mod First
