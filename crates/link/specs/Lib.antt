pub mod Answers
pub mod Settings
pub mod Seals
pub mod Opens
pub mod Keystream
