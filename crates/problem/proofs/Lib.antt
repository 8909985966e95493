pub mod Listed
pub mod Facts
pub mod Skips
pub mod Walk
pub mod Limits
