pub mod SumLaws
pub mod StringLaws
pub mod FillLaws
pub mod SpareLaws
pub mod RefusalLaws
pub mod DifferentLaws
