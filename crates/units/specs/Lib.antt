pub mod Lengths
pub mod Sums
pub mod Strings
pub mod Refusals
pub mod InWords
pub mod Spare
pub mod Different
