-- Rows of carriers, and the points of a symbol.
pub mod Row
pub mod Points
