pub mod Checking
pub mod Reading
pub mod Records
