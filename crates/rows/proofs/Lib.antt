-- Rows are the map's places.
pub mod Row
