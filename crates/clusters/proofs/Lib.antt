-- The tables are permutations; clusters, their renumbering and their groups, each one for one; and a row that is written half by half.
pub mod Tables
pub mod Cluster
pub mod Group
pub mod Law
pub mod Halves
