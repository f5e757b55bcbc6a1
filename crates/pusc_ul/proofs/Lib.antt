-- The law of PUSC uplink, and the facts that it is made of.
pub mod Tables
pub mod Place
pub mod Law
