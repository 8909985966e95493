pub mod candidates
pub mod slot
pub mod states
pub mod fairness
