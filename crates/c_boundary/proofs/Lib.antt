-- What a row comes to.
pub mod Row
