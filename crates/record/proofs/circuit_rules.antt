pub mod Eleven
pub mod Written
pub mod Sound
