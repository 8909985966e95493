pub mod Stops
pub mod Ways
