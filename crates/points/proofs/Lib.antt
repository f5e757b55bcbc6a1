-- Laws of points in buffers.
pub mod Points
pub mod Copy
