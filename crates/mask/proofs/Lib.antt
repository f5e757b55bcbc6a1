-- The law of the mask, and what an accepted mask is.
pub mod Law
