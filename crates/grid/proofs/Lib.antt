-- Laws of where a slot's points stand in its grid, and of an outcome.
pub mod Slot
pub mod Outcome
