pub mod KeyLaws
pub mod KeystreamLaws
pub mod PairLaws
pub mod SameLaws
