pub mod entries
pub mod calls
