pub mod Sound
pub mod Columns
pub mod Pass
pub mod Searched
pub mod Laid
pub mod Alike
pub mod Full
