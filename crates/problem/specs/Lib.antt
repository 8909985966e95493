pub mod Problems
pub mod Demand
pub mod Inner
pub mod order
pub mod pruned
pub mod Entries
