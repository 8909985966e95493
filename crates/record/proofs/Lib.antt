pub mod Kept
pub mod Long
pub mod Never
pub mod Refusals
