pub mod Slots
pub mod View
pub mod Inner
