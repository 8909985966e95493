pub mod Problems
pub mod Tables
pub mod Jobs
pub mod Searches
pub mod Made
pub mod Present
