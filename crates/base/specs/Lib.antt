-- What the definitions of several crates share, beside the library's numbers, lists and tests.
pub mod Choice
pub mod Answer
pub mod Steps
pub mod Tabulate
pub mod Permutation
pub mod Rank
pub mod First
pub mod Model
pub mod Whole
