pub mod Lit
pub mod Model
