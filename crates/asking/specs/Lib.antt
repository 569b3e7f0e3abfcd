pub mod Asking
pub mod Claims
pub mod Counted
