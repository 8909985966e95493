pub mod JobRules
pub mod circuit_fields
pub mod job_fields
pub mod circuit_rules
pub mod pair_codes
pub mod Answers
