pub mod Fusc
pub mod Table
