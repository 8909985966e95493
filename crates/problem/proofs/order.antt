pub mod Order
pub mod First
pub mod Enumeration
pub mod Deepening
pub mod Bytewise
pub mod Left
