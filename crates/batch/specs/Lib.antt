pub mod cutting
pub mod cells
