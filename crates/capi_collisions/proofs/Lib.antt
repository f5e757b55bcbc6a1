-- Laws of the C calls over collisions.
pub mod Collision
