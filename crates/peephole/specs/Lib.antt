pub mod Inner
pub mod windows
pub mod listing
