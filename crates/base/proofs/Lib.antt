-- Each kind of step has one law here; a mode's law is a composition of them.
pub mod Prelude
pub mod Test
pub mod Xor
pub mod Perm
pub mod Inner
pub mod LeaveOut
pub mod Table
pub mod Tabulate
pub mod Rank
pub mod First
pub mod Chain
