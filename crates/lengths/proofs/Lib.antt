-- Laws of the lengths and of questions 8 and 9.
pub mod Length
pub mod Refusal
