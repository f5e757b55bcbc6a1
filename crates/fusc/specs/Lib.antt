pub mod Table
pub mod Map
pub mod Law
pub mod Model
