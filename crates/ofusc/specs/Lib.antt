pub mod Width
pub mod Field
pub mod Table
pub mod Map
pub mod Law
