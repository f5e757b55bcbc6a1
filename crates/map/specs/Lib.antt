pub mod Place
pub mod Law
