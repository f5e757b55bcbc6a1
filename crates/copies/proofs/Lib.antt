-- Laws of copies.
pub mod Run
