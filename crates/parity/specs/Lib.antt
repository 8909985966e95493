pub mod Parity
pub mod odd_tables
