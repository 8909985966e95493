pub mod Codes
pub mod Pass
pub mod Bounds
pub mod Eleven
pub mod Ready
