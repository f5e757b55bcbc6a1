-- What the questions of the calls with a grid come to.
pub mod Refusal
