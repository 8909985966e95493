pub mod Wires
pub mod Swaps
pub mod Beats
pub mod Splits
pub mod Normal
