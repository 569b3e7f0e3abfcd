pub mod FeedingLaws
pub mod BuffersLaws
pub mod Claims
