pub mod Generator
pub mod Claims
pub mod Examples
