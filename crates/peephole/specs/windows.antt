pub mod Windows
pub mod Listings
pub mod Demand
pub mod Inner
