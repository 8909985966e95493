pub mod Replies
pub mod heading
