-- What the questions of lay come to.
pub mod Refusal
