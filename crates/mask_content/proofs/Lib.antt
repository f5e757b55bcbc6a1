-- What a column holds under a mask.
pub mod Content
