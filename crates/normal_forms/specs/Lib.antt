pub mod Forms
pub mod words
pub mod masks
