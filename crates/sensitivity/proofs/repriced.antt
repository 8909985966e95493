pub mod Problems
pub mod Jobs
