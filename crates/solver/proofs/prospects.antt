pub mod Costs
pub mod EachOnce
