pub mod Widen
pub mod Published
pub mod Undo
pub mod Slices
pub mod Tables
