pub mod Answers
pub mod Calls
pub mod Messages
pub mod Reach
