pub mod Widths
pub mod Small
