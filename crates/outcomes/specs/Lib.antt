pub mod Outcomes
pub mod Inner
pub mod preflight
