pub mod Centre
pub mod Law
