pub mod Named
pub mod Layouts
