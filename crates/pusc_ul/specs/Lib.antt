pub mod Table
pub mod Tile
pub mod Map
pub mod Law
pub mod Model
