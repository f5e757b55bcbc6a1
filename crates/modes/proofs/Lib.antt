-- What modes and their ranges come to.
pub mod Choice
pub mod Named
pub mod Accept
pub mod ByMode
pub mod Whole
pub mod Outcome
pub mod Lent
