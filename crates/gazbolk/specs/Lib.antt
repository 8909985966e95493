pub mod arguments
