pub mod Sums
pub mod Words
pub mod Joined
