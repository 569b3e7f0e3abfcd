pub mod Shapes
pub mod Claims
pub mod Examples
