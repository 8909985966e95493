pub mod Rows
pub mod Counted
pub mod Fewest
pub mod Kept
