-- The law of PUSC downlink, and the inner permutation, which it is made of.
pub mod Inner
pub mod Law
