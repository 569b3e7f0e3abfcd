pub mod BucketsLaws
pub mod IdsLaws
pub mod IdsPutLaws
