-- What the C calls over the map write: document 01's values where the request is accepted, else nothing.
pub mod Map
