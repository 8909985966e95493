pub mod mirrors
pub mod fill
