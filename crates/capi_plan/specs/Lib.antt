-- What the C calls over zone plans write: document 01's values where the request is accepted, else nothing.
pub mod Plan
