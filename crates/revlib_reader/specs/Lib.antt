pub mod Inner
pub mod gate_lines
pub mod heading
pub mod keywords
pub mod reader
