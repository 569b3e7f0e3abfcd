pub mod Ids
pub mod Buckets
pub mod Needs
