pub mod Filling
pub mod permutations
