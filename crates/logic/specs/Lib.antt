pub mod Rules
pub mod Lists
pub mod Bit
pub mod Answers
pub mod Words
