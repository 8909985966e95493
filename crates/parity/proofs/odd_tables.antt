pub mod Permutation
pub mod Pairs
pub mod Turning
pub mod Gates
pub mod Even
pub mod Tables
pub mod Never
