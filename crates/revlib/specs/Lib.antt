pub mod Grammar
pub mod Reading
pub mod Demand
pub mod Writing
