-- What a mask lights.
pub mod Lit
