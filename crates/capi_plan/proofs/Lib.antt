-- Laws of the C calls over zone plans.
pub mod Plan
