pub mod Deepening
