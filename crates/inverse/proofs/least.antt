pub mod Jobs
pub mod Promises
pub mod Samples
