pub mod Calls
pub mod Demand
pub mod limits
pub mod runs
