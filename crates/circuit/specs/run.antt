pub mod Run
pub mod Published
pub mod Inner
