pub mod Distinct
pub mod Odd
pub mod Eleven
