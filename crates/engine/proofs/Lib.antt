pub mod ChecksLaws
pub mod GivesLaws
pub mod IndexSmallLaws
pub mod ChecksSpans
