pub mod Cells
pub mod Filling
pub mod Codes
pub mod Statuses
pub mod Promises
