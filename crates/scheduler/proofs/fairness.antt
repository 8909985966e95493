pub mod Steps
pub mod Ahead
pub mod Promises
pub mod Turns
pub mod Count
