pub mod Table
pub mod Cluster
pub mod Group
pub mod Law
pub mod Model
