pub mod data_lines
