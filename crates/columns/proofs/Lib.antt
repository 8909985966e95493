pub mod Bits
pub mod Agreement
