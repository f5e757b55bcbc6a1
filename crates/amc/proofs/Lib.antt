-- Laws of AMC.
pub mod Digit
pub mod Tables
pub mod ZeroRule
pub mod Parts
pub mod Law
pub mod Claims
pub mod Sequence
