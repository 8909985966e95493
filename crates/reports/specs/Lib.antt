pub mod sentences
pub mod refusal
