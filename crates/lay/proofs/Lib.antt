-- Laws of a lay.
pub mod Laid
pub mod Left
