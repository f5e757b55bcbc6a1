-- Laws of a look.
pub mod Looked
