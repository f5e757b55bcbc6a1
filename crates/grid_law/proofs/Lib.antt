-- The law of the grid.
pub mod Law
