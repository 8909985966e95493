pub mod Gates
pub mod Published
pub mod Inner
