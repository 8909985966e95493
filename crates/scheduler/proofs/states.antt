pub mod Views
pub mod Rules
pub mod Serving
pub mod Eleven
