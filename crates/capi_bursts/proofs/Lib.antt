-- Laws of the C calls over lists of bursts.
pub mod Burst
