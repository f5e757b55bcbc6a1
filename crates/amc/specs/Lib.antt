pub mod Table
pub mod Element
pub mod Map
pub mod Law
pub mod Model
