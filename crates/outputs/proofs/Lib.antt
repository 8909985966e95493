pub mod Few
pub mod Skips
pub mod Unfinished
pub mod Wires
pub mod Counted
