pub mod Times
pub mod Prefix
pub mod Gatebound
