pub mod MarkPassesLaws
pub mod BoundsLaws
pub mod MarkLaws
pub mod ReachedLaws
pub mod ChooseLaws
