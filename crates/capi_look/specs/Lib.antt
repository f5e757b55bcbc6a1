-- What `bp_look` writes: document 01's values where the request is accepted, else nothing.
pub mod Look
