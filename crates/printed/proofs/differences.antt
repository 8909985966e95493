pub mod Short
pub mod Samples
pub mod Told
