pub mod TagLaws
pub mod SlotLaws
pub mod KeystreamLaws
pub mod StreamLaws
pub mod CoverLaws
pub mod SameLaws
pub mod CallLaws
