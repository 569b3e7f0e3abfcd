pub mod RunsSortedLaws
pub mod RunsLaws
pub mod TalliesLaws
pub mod ReadingUsefulLaws
pub mod ReadingLaws
