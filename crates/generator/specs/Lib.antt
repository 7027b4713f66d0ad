pub mod Generators
pub mod Keys
pub mod Keystreams
pub mod Pairs
pub mod Soundness
