-- The points of a symbol.
pub mod Points
