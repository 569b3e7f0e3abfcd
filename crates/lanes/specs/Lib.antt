pub mod Lanes
pub mod Validity
