pub mod Heavy
pub mod Afford
