pub mod Library
pub mod Inner
