pub mod Retiring
pub mod Needs
