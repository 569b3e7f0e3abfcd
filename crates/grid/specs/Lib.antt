pub mod Units
pub mod Places
pub mod Moments
pub mod Reports
pub mod Small
pub mod Curve
pub mod Examples
