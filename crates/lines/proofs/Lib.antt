pub mod ReadingLaws
pub mod LinesLaws
pub mod Claims
pub mod Examples
