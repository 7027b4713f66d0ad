pub mod CheckingLaws
pub mod ReadingLaws
pub mod RecordLaws
