pub mod FieldsLaws
pub mod NumbersLaws
pub mod PutLaws
pub mod ReadingLaws
pub mod WritingLaws
