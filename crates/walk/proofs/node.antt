pub mod Entries
pub mod Nodes
pub mod Forms
pub mod Pruning
pub mod Exactly
