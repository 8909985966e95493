pub mod counts
pub mod lines
