pub mod Measure
pub mod run
pub mod measures
pub mod reversal
