pub mod Read
pub mod Model
