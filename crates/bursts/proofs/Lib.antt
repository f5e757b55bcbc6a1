pub mod Answer
pub mod Law
