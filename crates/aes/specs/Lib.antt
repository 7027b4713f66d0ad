pub mod Cipher
pub mod KeyExpansion
pub mod Blocks
pub mod Example
pub mod RoundKeys
pub mod Steps
