pub mod Flat
pub mod FlatLink
pub mod Known
