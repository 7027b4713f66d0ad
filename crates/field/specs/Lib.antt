pub mod Blocks
pub mod Folds
pub mod Tags
pub mod Laws
