pub mod Inner
pub mod Map
