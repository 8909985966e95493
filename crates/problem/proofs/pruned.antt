pub mod Listing
pub mod Root
pub mod Walk
