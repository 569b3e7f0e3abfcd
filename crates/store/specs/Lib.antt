pub mod Finding
pub mod Inserting
pub mod Needs
pub mod Removing
pub mod Sorting
pub mod Stepping
pub mod Widening
