pub mod Afford
