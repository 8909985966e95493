pub mod Samples
pub mod Exact
pub mod Promises
pub mod Sound
pub mod RoundTrip
pub mod Eleven
