pub mod Band
pub mod Bin
pub mod Law
pub mod Model
