-- Laws of `bp_look`.
pub mod Look
