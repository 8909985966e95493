pub mod misses
pub mod near_offer
