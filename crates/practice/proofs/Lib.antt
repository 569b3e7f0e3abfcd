pub mod Newlines
pub mod Claims
