pub mod Reversal
pub mod Published
