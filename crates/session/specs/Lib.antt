pub mod Session
pub mod Feeding
pub mod Buffers
pub mod Claims
