-- Laws of the ground.
pub mod Pilots
pub mod Lent
pub mod Left
pub mod Alike
