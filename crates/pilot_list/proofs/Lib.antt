-- Accepted lists: their entries, where a number stands among them, and what they leave.
pub mod Entries
pub mod Stand
pub mod Law
