pub mod Fields
pub mod Numbers
pub mod Put
pub mod Reading
pub mod Writing
