-- The sequence is a permutation, points and data numbers are the same, one for one, and the law of FUSC.
pub mod Tables
pub mod Law
