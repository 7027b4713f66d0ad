pub mod ByteField
pub mod Sbox
pub mod Laws
