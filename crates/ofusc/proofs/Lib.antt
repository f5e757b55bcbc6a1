-- Laws of optional FUSC.
pub mod Sequence
pub mod Tables
pub mod Law
