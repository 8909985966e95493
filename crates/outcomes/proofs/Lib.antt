pub mod Facts
pub mod Verified
pub mod Answer
pub mod Told
pub mod Limits
