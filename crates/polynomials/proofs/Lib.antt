pub mod ProductLaws
pub mod RemainderLaws
pub mod FieldLaws
pub mod HoleLaws
pub mod WordLaws
pub mod ReductionLaws
