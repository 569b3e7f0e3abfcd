pub mod Whole
pub mod Lists
pub mod Visits
pub mod Examples
