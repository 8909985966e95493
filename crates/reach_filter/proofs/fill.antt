pub mod Nearby
pub mod Sieves
pub mod Cuts
