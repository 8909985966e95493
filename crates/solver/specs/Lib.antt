pub mod States
pub mod deepening
