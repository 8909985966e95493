pub mod Cutting
pub mod Joined
