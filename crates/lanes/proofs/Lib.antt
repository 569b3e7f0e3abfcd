pub mod BoundsLaws
pub mod ValidityLaws
