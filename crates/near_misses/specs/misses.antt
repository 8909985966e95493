pub mod Misses
pub mod Columns
