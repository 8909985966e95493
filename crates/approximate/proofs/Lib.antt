pub mod Posed
pub mod Answer
pub mod Told
pub mod Promises
