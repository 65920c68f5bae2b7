pub mod Arena
pub mod Chains
pub mod Indices
pub mod Links
pub mod Nodes
