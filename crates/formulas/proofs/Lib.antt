-- What the modes' formulas come to.
pub mod Asks
pub mod Slot
pub mod Alike
