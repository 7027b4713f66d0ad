pub mod NumberLaws
pub mod ByteFieldLaws
pub mod SboxLaws
pub mod WireLaws
pub mod StateLaws
pub mod CircuitLaws
