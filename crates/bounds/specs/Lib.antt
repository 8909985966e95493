pub mod budget
pub mod sums
pub mod span
