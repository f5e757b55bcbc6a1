-- Runs are the map's pilots and points.
pub mod Law
