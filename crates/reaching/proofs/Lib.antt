pub mod ReachingLaws
