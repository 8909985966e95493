pub mod Closeness
pub mod Inner
