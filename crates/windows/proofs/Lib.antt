pub mod BitLaws
pub mod WindowLaws
