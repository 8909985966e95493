pub mod Digits
pub mod Odometer
pub mod Advancing
pub mod Alone
pub mod Ordered
pub mod Rising
