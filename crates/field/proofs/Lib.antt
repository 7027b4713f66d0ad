pub mod BlockLaws
pub mod FoldLaws
pub mod TagLaws
