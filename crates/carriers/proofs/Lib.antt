-- Laws of used numbers and bins.
pub mod Guards
pub mod Bin
pub mod Relabel
pub mod Row
