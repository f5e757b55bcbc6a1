-- The points of a cluster.
mod Points
