pub mod differences
pub mod misses
pub mod job_line
pub mod files
pub mod batch_parts
pub mod rewriting
