pub mod Checks
pub mod Index
pub mod Gives
pub mod Sound
