pub mod job_line
