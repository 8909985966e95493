pub mod Owed
pub mod products
pub mod plan
pub mod worth
