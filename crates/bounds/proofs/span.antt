pub mod Clearing
pub mod Spanned
pub mod Run
pub mod Elimination
pub mod Spelled
pub mod Fewest
