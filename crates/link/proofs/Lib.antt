pub mod SealLaws
pub mod OpenLaws
