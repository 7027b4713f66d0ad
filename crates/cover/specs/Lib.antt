pub mod WorkArea
pub mod Keystream
pub mod Tags
pub mod Answers
pub mod Encryption
pub mod Integrity
pub mod Combined
pub mod Laws
