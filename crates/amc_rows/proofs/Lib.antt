-- Rows of carriers, and the points of a bin.
pub mod Row
pub mod Points
