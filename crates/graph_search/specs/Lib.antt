pub mod Edges
pub mod Orders
pub mod Counts
pub mod Paths
