-- Laws of the C calls over the map.
pub mod Map
