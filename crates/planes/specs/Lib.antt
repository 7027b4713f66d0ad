pub mod Planes
pub mod Exchanges
