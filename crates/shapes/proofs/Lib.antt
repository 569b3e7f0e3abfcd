pub mod Squares
pub mod Turns
pub mod Curve
pub mod Claims
pub mod Parts
pub mod Examples
