-- What the C calls over lists of bursts write: document 01's values where the request is accepted, else nothing.
pub mod Burst
