pub mod Mirror
pub mod Inverse
pub mod least
