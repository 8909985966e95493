pub mod Wanted
pub mod Finish
