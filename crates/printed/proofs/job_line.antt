pub mod Inputs
pub mod Samples
