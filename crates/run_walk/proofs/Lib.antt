-- The walk over the runs of a row.
pub mod Taken
pub mod Dropped
