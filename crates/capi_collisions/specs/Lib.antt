-- What the C calls over collisions write: document 01's values where the request is accepted, else nothing.
pub mod Collision
